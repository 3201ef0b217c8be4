use Rattle.std.proofs.Common.{subst}
use Rattle.s38_rules.specs.state.Held.{Held}
use Rattle.s38_objects.specs.Lawful.{IsObjectMap}
use Rattle.s38_objects.proofs.IndexLaws.{lawful}
use Rattle.s38_objects.proofs.objects.Objects.len.Goals as goal

pub returns-clause-lawful : goal.returns-clause-lawful
returns-clause-lawful c =
    let m = c.self.inside in
    subst (λ (h : Held). IsObjectMap h) c.self.view_is (lawful m.by_number m.by_name m.next m.ceiling c.self.invariant)
