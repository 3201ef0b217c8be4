use Rattle.std.proofs.Common.{◌∙◌, ap, subst, sym}
use Rattle.std.specs.FinMap as map
use Rattle.s38_vault.proofs.KeyedLaws.{Rise, map_of, rise_without, values_without}
use Rattle.s38_vault.proofs.keyed.Keyed.remove.Goals as goal

pub invariant_of-self : goal.invariant_of-self
invariant_of-self g c = subst Rise (sym c.take_out.ensures.entries) (rise_without c.self.inside.entries.items c.args.key c.self.invariant)

pub returns-clause-values : goal.returns-clause-values
returns-clause-values g c =
    ap map_of c.take_out.ensures.entries ∙ values_without c.self.inside.entries.items c.args.key c.self.invariant
    ∙ ap (λ k. map.remove k.values c.args.key) c.self.view_is
