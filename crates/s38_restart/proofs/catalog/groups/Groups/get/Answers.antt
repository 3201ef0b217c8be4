use Rattle.std.proofs.Common.{◌≡◌, ℕ, List, ap, ◌∙◌}
use Rattle.std.specs.Prelude.{slice_get}
use Rattle.s38_image.specs.Faults.{Group}
use Rattle.s38_restart.proofs.catalog.LookupLaws.{group_at, item_get}
use Rattle.s38_restart.proofs.catalog.groups.Groups.get.Goals as goal

pub returns : goal.returns
returns c =
    let gs = c.args.self.now in
    let same : c.deref.result.now ≡ gs = c.deref.ensures.value ∙ c.self.view_is in
    item_get c.deref.result.now c.place_of.result c.get.result c.get.ensures.lookup ∙ ap (λ (l : List Group). slice_get l c.place_of.result) same
    ∙ ap (λ (k : ℕ). slice_get gs k) c.place_of.ensures ∙ group_at c.args.number gs
