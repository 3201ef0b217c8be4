use Rattle.std.proofs.Common.{◌≡◌, ◌≤◌, ◌+◌, List, true, sym, ap, subst}
use Rattle.std.specs.Prelude.{None}
use Rattle.s38_rules.specs.declared.object.Object.{Object}
use Rattle.s38_rules.specs.state.Held.{Held, found}
use Rattle.s38_objects.specs.Lawful.{is_place_of}
use Rattle.s38_objects.proofs.IndexLaws.{fresh, indexed_added, indexed_refused, near, values_added}
use Rattle.s38_objects.proofs.ObjectLaws.{from_ok}
use Rattle.s38_objects.proofs.objects.Objects.add.Goals as goal

pub invariant_of-self-in-Err : goal.invariant_of-self-in-Err
invariant_of-self-in-Err c =
    let m = c.self.inside in
    let o = c.args.object in
    let high : m.next ≤ o.number.0 = subst (λ (h : Held). h.next ≤ o.number.0) (sym c.self.view_is) c.requires.unused in
    let placed = subst (λ (h : Held). is_place_of h o ≡ true) (sym c.self.view_is) c.requires.placed in
    let unnamed = subst (λ (h : Held). found h o.context.0 o.id ≡ None) (sym c.self.view_is) c.requires.unnamed in
    let none = fresh m.by_number m.by_name m.next m.ceiling o c.self.invariant high placed unnamed in
    indexed_refused m.by_number c.add.new.objects m.by_name c.enter.new.names c.leave.new.names m.next o c.in-Err.refused.value c.self.invariant none c.in-Err.ensures.err c.in-Err.ensures.back
    (from_ok c.enter.result (sym c.if-is_err.ensures.value) c.enter.ensures.ok) c.leave.ensures

pub invariant_of-self-2 : goal.invariant_of-self-2
invariant_of-self-2 c =
    let m = c.self.inside in
    let o = c.args.object in
    let h = c.self.invariant in
    let high : m.next ≤ o.number.0 = subst (λ (s : Held). s.next ≤ o.number.0) (sym c.self.view_is) c.requires.unused in
    let placed = subst (λ (s : Held). is_place_of s o ≡ true) (sym c.self.view_is) c.requires.placed in
    let unnamed = subst (λ (s : Held). found s o.context.0 o.id ≡ None) (sym c.self.view_is) c.requires.unnamed in
    let none = fresh m.by_number m.by_name m.next m.ceiling o h high placed unnamed in
    indexed_added m.by_number c.add.new.objects m.by_name c.enter.new.names m.next o h high (near m.by_number m.by_name m.next m.ceiling o h high placed) none c.in-Ok.ensures.ok c.in-Ok.ensures.ordered
    (from_ok c.enter.result (sym c.if-is_err.ensures.value) c.enter.ensures.ok)

pub returns-clause-ok : goal.returns-clause-ok
returns-clause-ok c =
    let m = c.self.inside in
    let o = c.args.object in
    let high : m.next ≤ o.number.0 = subst (λ (s : Held). s.next ≤ o.number.0) (sym c.self.view_is) c.requires.unused in
    let shown : List Object → Held = λ os. record { objects = os; next = o.number.0 + 1; ceiling = m.ceiling } in
    rw (← c.self.view_is) (ap shown (values_added m.by_number c.add.new.objects m.by_name m.next o c.self.invariant high c.in-Ok.ensures.ok))
