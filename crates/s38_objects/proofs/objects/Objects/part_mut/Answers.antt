use Rattle.std.proofs.Common.{◌≡◌, ◌∙◌, ℕ, List, ap, refl, inr}
use borrow.Follows.Closed.{read_of}
use Rattle.std.specs.Option.{ghost_name_of}
use Rattle.std.specs.BTreeMap.{BTreeMap, values}
use Rattle.std.specs.Map.{values_of}
use Rattle.s38_rules.specs.declared.object.Object.{Object}
use Rattle.s38_rules.specs.state.Held.{Held, change_in}
use Rattle.s38_rules.specs.state.Parts.{over_body, over_object, part_in}
use Rattle.s38_objects.specs.Changes.{KeepsName, with_body}
use Rattle.s38_objects.proofs.NumberLaws.{lookup_object, object_unchanged, object_written}
use Rattle.s38_objects.proofs.IndexLaws.{indexed_changed, indexed_same, values_changed_to}
use Rattle.s38_objects.proofs.objects.Objects.part_mut.Goals as goal

pub invariant_of-self-lent : goal.invariant_of-self-lent
invariant_of-self-lent g c =
    let m = c.self.inside in
    let o = c.in-Some.object.now in
    let n = c.args.number.0 in
    λ _. (
      λ w. let f = with_body (over_body g.P.BodyPart.part (λ _. w)) in
          let keeps : KeepsName f = record { number = λ x. refl; context = λ x. refl; id = λ x. refl } in
          indexed_changed m.by_number (c.get_mut.follows.lender (f o)) m.by_name m.next n f keeps c.self.invariant
          (object_written n f o (f o) m.by_number.entries (c.get_mut.follows.lender (f o)).entries c.in-Some.ensures.value (c.get_mut.follows.holds (f o)).0 refl),
      indexed_same m.by_number (c.get_mut.follows.lender o) m.by_name m.next c.self.invariant
          (object_unchanged n o o m.by_number.entries (c.get_mut.follows.lender o).entries c.in-Some.ensures.value (c.get_mut.follows.holds o).0 refl),
    )

pub returns-in-Some : goal.returns-in-Some
returns-in-Some g c =
    let m = c.self.inside in
    let o = c.in-Some.object.now in
    let n = c.args.number.0 in
    let p = g.P.BodyPart.part in
    let shown : List Object → Held = λ os. record { objects = os; next = m.next; ceiling = m.ceiling } in
    let lent : (w : g.row.P.Denot) → values (c.get_mut.follows.lender (with_body (over_body p (λ _. w)) o)) ≡ change_in (values m.by_number) n (over_object p (λ _. w)) =
    λ w. let f = with_body (over_body p (λ _. w)) in
    values_changed_to m.by_number (c.get_mut.follows.lender (f o)) m.by_name m.next n f c.self.invariant
    (object_written n f o (f o) m.by_number.entries (c.get_mut.follows.lender (f o)).entries c.in-Some.ensures.value (c.get_mut.follows.holds (f o)).0 refl) in
    let kept : values (c.get_mut.follows.lender o) ≡ values m.by_number =
    ap (λ (es : List (ℕ × Object)). values_of es) (object_unchanged n o o m.by_number.entries (c.get_mut.follows.lender o).entries c.in-Some.ensures.value (c.get_mut.follows.holds o).0 refl) in
    let held = c.of_mut.ensures.value ∙ ap (part_in p) (c.in-Some.ensures.value ∙ lookup_object m.next n m.by_number.entries c.self.invariant.numbered) in
    rw (← c.self.view_is) ((λ i. read_of (ghost_name_of c.of_mut.result) (λ w. shown (lent w i)) (shown (kept i))), record { writes_back = tt; value = held })

pub returns-in-None : goal.returns-in-None
returns-in-None g c =
    let m = c.self.inside in
    let shown : BTreeMap ℕ Object → Held = λ x. record { objects = values x; next = m.next; ceiling = m.ceiling } in
    let none = ap (part_in g.P.BodyPart.part) (c.in-None.ensures.value ∙ lookup_object m.next c.args.number.0 m.by_number.entries c.self.invariant.numbered) in
    rw (← c.self.view_is) (ap (λ (x : BTreeMap ℕ Object). inr (shown x)) c.get_mut.follows.holds-at-none, record { writes_back = tt; value = none })
