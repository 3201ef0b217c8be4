use Rattle.std.proofs.Common.{◌≡◌, ◌∙◌, ◌<◌, List, false, ap, sym, subst}
use Rattle.std.specs.BTreeMap.{values}
use Rattle.s38_rules.specs.declared.object.Object.{Object}
use Rattle.s38_rules.specs.families.Creation.{is_taken_beside}
use Rattle.s38_rules.specs.state.Held.{Held, change}
use Rattle.s38_objects.specs.Changes.{placed}
use Rattle.s38_objects.proofs.IndexLaws.{values_changed_to}
use Rattle.s38_objects.proofs.NumberLaws.{lookup_object}
use Rattle.s38_objects.proofs.ObjectLaws.{change_absent}
use Rattle.s38_objects.proofs.PlaceLaws.{indexed_placed}
use Rattle.s38_objects.proofs.objects.Objects.place.Goals as goal

pub returns-in-None-clause-ok : goal.returns-in-None-clause-ok
returns-in-None-clause-ok c =
    let m = c.self.inside in
    let n = c.args.number.0 in
    let none = sym (lookup_object m.next n m.by_number.entries c.self.invariant.numbered) ∙ sym c.in-None.ensures.value in
    let f = placed c.args.context c.args.id.now in
    subst (λ (h : Held). h ≡ change h n f) c.self.view_is (change_absent (record { objects = values m.by_number; next = m.next; ceiling = m.ceiling }) n f none)

pub invariant_of-self-2 : goal.invariant_of-self-2
invariant_of-self-2 c =
    let m = c.self.inside in
    let n = c.args.number.0 in
    let context = c.args.context in
    let id = c.args.id.now in
    let given = subst (λ (h : Held). context.0 < h.next) (sym c.self.view_is) c.requires.given in
    let unnamed = subst (λ (h : Held). is_taken_beside h n context.0 id ≡ false) (sym c.self.view_is) c.requires.unnamed in
    indexed_placed m.by_number c.place.new.objects m.by_name c.change.new.names m.next n context id c.in-Some.object.now c.self.invariant (sym c.in-Some.ensures.value) given unnamed c.place.ensures c.in-Ok.ensures.ok

pub returns-clause-ok : goal.returns-clause-ok
returns-clause-ok c =
    let m = c.self.inside in
    let shown : List Object → Held = λ os. record { objects = os; next = m.next; ceiling = m.ceiling } in
    rw (← c.self.view_is) (ap shown (values_changed_to m.by_number c.place.new.objects m.by_name m.next c.args.number.0 (placed c.args.context c.args.id.now) c.self.invariant c.place.ensures))
