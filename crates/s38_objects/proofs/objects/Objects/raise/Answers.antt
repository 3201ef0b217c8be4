use Rattle.std.proofs.Common.{◌≤◌, sym, subst}
use Rattle.s38_rules.specs.state.Held.{Held}
use Rattle.s38_objects.proofs.IndexLaws.{indexed_raised}
use Rattle.s38_objects.proofs.objects.Objects.raise.Goals as goal

pub invariant_of-self : goal.invariant_of-self
invariant_of-self c =
    let m = c.self.inside in
    let high : m.next ≤ c.args.next = subst (λ (h : Held). h.next ≤ c.args.next) (sym c.self.view_is) c.requires in
    indexed_raised m.by_number m.by_name m.next c.args.next c.self.invariant high
