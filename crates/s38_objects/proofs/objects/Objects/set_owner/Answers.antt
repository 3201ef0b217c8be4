use Rattle.std.proofs.Common.{ap, List, refl}
use Rattle.s38_rules.specs.declared.object.Object.{Object}
use Rattle.s38_rules.specs.state.Held.{Held}
use Rattle.s38_rules.specs.state.Access.{owned_by}
use Rattle.s38_objects.specs.Changes.{with_changed_standing}
use Rattle.s38_objects.proofs.IndexLaws.{indexed_changed, values_changed_to}
use Rattle.s38_objects.proofs.objects.Objects.set_owner.Goals as goal

pub invariant_of-self : goal.invariant_of-self
invariant_of-self c =
    let m = c.self.inside in
    indexed_changed m.by_number c.set_owner.new.objects m.by_name m.next c.args.number.0 (with_changed_standing (owned_by c.args.user)) (record { number = λ o. refl; context = λ o. refl; id = λ o. refl }) c.self.invariant c.set_owner.ensures

pub returns : goal.returns
returns c =
    let m = c.self.inside in
    let shown : List Object → Held = λ os. record { objects = os; next = m.next; ceiling = m.ceiling } in
    rw (← c.self.view_is) (ap shown (values_changed_to m.by_number c.set_owner.new.objects m.by_name m.next c.args.number.0 (with_changed_standing (owned_by c.args.user)) c.self.invariant c.set_owner.ensures))
