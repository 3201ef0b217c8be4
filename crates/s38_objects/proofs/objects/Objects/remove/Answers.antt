use Rattle.std.proofs.Common.{◌∙◌, ℕ, List, sym, ap}
use Rattle.std.specs.Map.{values_of}
use Rattle.s38_rules.specs.declared.object.Object.{Object}
use Rattle.s38_rules.specs.state.Held.{Held}
use Rattle.s38_objects.proofs.NumberLaws.{lookup_object, values_without}
use Rattle.s38_objects.proofs.IndexLaws.{indexed_removed}
use Rattle.s38_objects.proofs.objects.Objects.remove.Goals as goal

pub invariant_of-self : goal.invariant_of-self
invariant_of-self c =
    let m = c.self.inside in
    let o = c.in-Some.object in
    indexed_removed m.by_number c.remove.new.self m.by_name c.leave.new.names m.next c.args.number.0 o c.self.invariant (sym c.in-Some.ensures.value) c.remove.ensures.entries c.remove.ensures.ordered c.leave.ensures

pub returns-in-Some-clause-object : goal.returns-in-Some-clause-object
returns-in-Some-clause-object c =
    let m = c.self.inside in
    rw (← c.self.view_is) (c.in-Some.ensures.value ∙ lookup_object m.next c.args.number.0 m.by_number.entries c.self.invariant.numbered)

pub returns-in-Some-clause-rest : goal.returns-in-Some-clause-rest
returns-in-Some-clause-rest c =
    let m = c.self.inside in
    let shown : List (ℕ × Object) → Held = λ es. record { objects = values_of es; next = m.next; ceiling = m.ceiling } in
    let held : List Object → Held = λ os. record { objects = os; next = m.next; ceiling = m.ceiling } in
    rw (← c.self.view_is) (ap shown c.remove.ensures.entries ∙ ap held (values_without m.next c.args.number.0 m.by_number.entries c.self.invariant.numbered c.self.invariant.ordered))

pub returns-in-None-clause-object : goal.returns-in-None-clause-object
returns-in-None-clause-object c =
    let m = c.self.inside in
    rw (← c.self.view_is) (c.in-None.ensures.value ∙ lookup_object m.next c.args.number.0 m.by_number.entries c.self.invariant.numbered)

pub returns-in-None-clause-rest : goal.returns-in-None-clause-rest
returns-in-None-clause-rest c =
    let m = c.self.inside in
    let shown : List (ℕ × Object) → Held = λ es. record { objects = values_of es; next = m.next; ceiling = m.ceiling } in
    let held : List Object → Held = λ os. record { objects = os; next = m.next; ceiling = m.ceiling } in
    rw (← c.self.view_is) (ap shown c.remove.ensures.entries ∙ ap held (values_without m.next c.args.number.0 m.by_number.entries c.self.invariant.numbered c.self.invariant.ordered))
