use Rattle.std.proofs.Common.{◌∙◌, ap, subst, sym}
use Rattle.std.specs.FinMap as map
use Rattle.s38_vault.proofs.KeyedLaws.{Rise, map_of, rise_put, values_put}
use Rattle.s38_vault.proofs.keyed.Keyed.insert.Goals as goal

pub invariant_of-self : goal.invariant_of-self
invariant_of-self g c = subst Rise (sym c.put.ensures.entries) (rise_put c.self.inside.entries.items c.args.key c.args.value c.self.invariant)

pub returns-clause-values : goal.returns-clause-values
returns-clause-values g c =
    ap map_of c.put.ensures.entries ∙ values_put c.self.inside.entries.items c.args.key c.args.value c.self.invariant
    ∙ ap (λ k. map.insert k.values c.args.key c.args.value) c.self.view_is
