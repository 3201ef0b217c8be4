use Rattle.std.proofs.Common.{◌∙◌, ap}
use Rattle.std.specs.FinMap as map
use Rattle.s38_vault.specs.Keys.{key_cmp}
use Rattle.s38_vault.proofs.KeyedLaws.{get_is}
use Rattle.s38_vault.proofs.keyed.Keyed.get.Goals as goal

pub returns : goal.returns
returns g c =
    let key = c.args.key in
    c.find.ensures
    ∙ ap (map.find key_cmp key) c.deref.ensures.value
    ∙ get_is c.self.inside.entries.items key c.self.invariant
    ∙ ap (λ k. map.get k.values key) c.self.view_is
