use Rattle.std.proofs.Common.{◌∙◌, ap, length, sym}
use Rattle.std.specs.FinMap as map
use Rattle.s38_vault.proofs.KeyedLaws.{len_is}
use Rattle.s38_vault.proofs.keyed.Keyed.len.Goals as goal

pub returns : goal.returns
returns g c =
    ap length c.as_slice.ensures.value ∙ sym (len_is c.self.inside.entries.items c.self.invariant) ∙ ap (λ k. map.len k.values) c.self.view_is
