use Rattle.std.proofs.Common.{◌≡◌, ◌∙◌, ◌<◌, true, ap, refl, sym, subst}
use Rattle.std.specs.Prelude.{Option, Some}
use Rattle.std.specs.BTreeMap.{values}
use Rattle.std.proofs.lemmas.Result.{on_ok_weaker}
use Rattle.s38_rules.specs.declared.object.Object.{Object}
use Rattle.s38_rules.specs.families.Contexts.{is_name_beside}
use Rattle.s38_rules.specs.state.Held.{Held, change, moved, object}
use Rattle.s38_objects.specs.Changes.{placed}
use Rattle.s38_objects.specs.Lawful.{is_place}
use Rattle.s38_objects.proofs.NumberLaws.{lookup_object}
use Rattle.s38_objects.proofs.ObjectLaws.{change_absent, change_alike, place_given}
use Rattle.s38_objects.proofs.objects.Objects.move_to.Goals as goal

pub place-requires-clause-given : goal.place-requires-clause-given
place-requires-clause-given c =
    let m = c.self.inside in
    let placed = subst (λ (h : Held). is_place h c.args.context.0 ≡ true) (sym c.self.view_is) c.requires.placed in
    subst (λ (h : Held). c.args.context.0 < h.next) c.self.view_is
    (place_given m.by_number m.by_name m.next m.ceiling c.args.number.0 c.args.context.0 c.in-Some.object.now c.self.invariant (sym c.in-Some.ensures.value) placed)

pub place-requires-clause-unnamed : goal.place-requires-clause-unnamed
place-requires-clause-unnamed c =
    let m = c.self.inside in
    let n = c.args.number.0 in
    let o = c.in-Some.object.now in
    let there = subst (λ (h : Held). object h n ≡ Some o) c.self.view_is (sym (lookup_object m.next n m.by_number.entries c.self.invariant.numbered) ∙ sym c.in-Some.ensures.value) in
    ap (λ (r : Option Object). is_name_beside c.args.self.now n c.args.context.0 r) (sym there) ∙ c.requires.unnamed

pub returns-in-None-clause-ok : goal.returns-in-None-clause-ok
returns-in-None-clause-ok c =
    let m = c.self.inside in
    let n = c.args.number.0 in
    let none = sym (lookup_object m.next n m.by_number.entries c.self.invariant.numbered) ∙ sym c.in-None.ensures.value in
    subst (λ (h : Held). h ≡ moved h n c.args.context) c.self.view_is (change_absent (record { objects = values m.by_number; next = m.next; ceiling = m.ceiling }) n (λ o. record o { context = c.args.context }) none)

pub returns-in-Some-clause-ok : goal.returns-in-Some-clause-ok
returns-in-Some-clause-ok c =
    let m = c.self.inside in
    let n = c.args.number.0 in
    let o = c.in-Some.object.now in
    let there = subst (λ (h : Held). object h n ≡ Some o) c.self.view_is (sym (lookup_object m.next n m.by_number.entries c.self.invariant.numbered) ∙ sym c.in-Some.ensures.value) in
    on_ok_weaker c.place.result (λ (same : c.place.new.self ≡ change c.args.self.now n (placed c.args.context o.id)). same ∙ change_alike c.args.self.now n (placed c.args.context o.id) (λ x. record x { context = c.args.context }) o there refl) c.place.ensures.ok
