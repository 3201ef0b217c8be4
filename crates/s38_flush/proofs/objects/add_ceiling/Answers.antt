use Rattle.std.proofs.Common.{◌≡◌, ◌++◌, ◌∙◌, List, ap, sym, true}
use Rattle.std.specs.FinMap.{get}
use Rattle.std.specs.List.{list_any}
use Rattle.s38_base.specs.declared.page.Change.{Change}
use Rattle.s38_durable_state.specs.Represents.{ceiling_parts}
use Rattle.s38_page_diff.specs.Differences.{differences}
use Rattle.s38_image.specs.PartPlaces.{ceiling_key}
use Rattle.s38_page_diff.specs.reconcile.Replacing.{range_of}
use Rattle.s38_flush.proofs.EachLaws.{added_own, added_rising, ceiling_told}
use Rattle.s38_flush.proofs.KeptLaws.{adds_at}
use Rattle.s38_space_map.specs.Forcings.{all_forced}
use Rattle.s38_flush.specs.Stepping.{is_forced_ceiling}
use Rattle.s38_flush.proofs.objects.add_ceiling.Goals as goal

pub returns-clause-told : goal.returns-clause-told
returns-clause-told g c = λ m d s held same.
    let all = all_forced c.args.all.now in
    let old = c.args.into.now.items in
    let new = c.add_wanted.new.into.items in
    let forced : list_any is_forced_ceiling all ≡ true = sym c.forces_ceiling.ensures ∙ c.if-not-forces_ceiling.false in
    let parts : c.deref.result.now ≡ ceiling_parts c.args.objects.now.ceiling = c.deref.ensures.value ∙ c.in_ok-parts.ensures.parts ∙ ap ceiling_parts c.ceiling.ensures in
    ceiling_told all (get m) d s c.args.objects.now old new forced same c.requires.none
    (c.in_ok-add_wanted.ensures.at.told m held ∙ ap (λ (cs : List Change). old ++ differences (get m) (range_of ceiling_key) cs) parts)

pub returns-clause-rising : goal.returns-clause-rising
returns-clause-rising g c =
    let V = g.V.Vault in
    let old = c.args.vault.now in
    added_rising ceiling_key c.args.into.now.items c.add_wanted.new.into.items c.requires.none (adds_at (V.view old).keys (V.holds old) ceiling_key _ c.args.into.now.items c.add_wanted.new.into.items c.in_ok-add_wanted.ensures.at)

pub returns-clause-own : goal.returns-clause-own
returns-clause-own g c =
    let V = g.V.Vault in
    let old = c.args.vault.now in
    added_own ceiling_key c.args.into.now.items c.add_wanted.new.into.items c.requires.none (adds_at (V.view old).keys (V.holds old) ceiling_key _ c.args.into.now.items c.add_wanted.new.into.items c.in_ok-add_wanted.ensures.at)
