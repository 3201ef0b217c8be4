-- The objects of a store that is made can be kept.
use Rattle.std.proofs.Common.{◌≡◌, All, subst, sym}
use Rattle.s38_laws_images.proofs.openings.FirstLaws.{installed_opening}
use Rattle.s38_laws_images.specs.openings.Opening.{IsNumbered}
use Rattle.s38_rules.specs.state.Held.{Held}
use Rattle.s38_rules.specs.state.Opening.{held_installed}
use Rattle.s38_rules.specs.store.Storable.{IsStorable}

pub installed_storable : (h : Held) → h ≡ held_installed → All IsStorable h.objects
installed_storable h is = subst (λ (x : Held). All IsStorable x.objects) (sym is) (λ k d h. (installed_opening.well k d h).storable)

pub installed_numbers : (h : Held) → h ≡ held_installed → All IsNumbered h.objects
installed_numbers h is = subst (λ (x : Held). All IsNumbered x.objects) (sym is) installed_opening.numbered
