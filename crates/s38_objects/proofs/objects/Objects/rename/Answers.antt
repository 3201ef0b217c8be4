use Rattle.std.proofs.Common.{◌≡◌, ◌∙◌, ◌<◌, ap, refl, sym, subst}
use Rattle.std.specs.Prelude.{Option, Some}
use Rattle.std.specs.BTreeMap.{values}
use Rattle.std.proofs.lemmas.Result.{on_ok_weaker}
use Rattle.s38_rules.specs.declared.object.Object.{Object}
use Rattle.s38_rules.specs.families.Creation.{is_taken_beside}
use Rattle.s38_rules.specs.state.Held.{Held, change, context_in, object, renamed}
use Rattle.s38_objects.specs.Changes.{placed}
use Rattle.s38_objects.proofs.NumberLaws.{lookup_object}
use Rattle.s38_objects.proofs.ObjectLaws.{change_absent, change_alike, context_given}
use Rattle.s38_objects.proofs.objects.Objects.rename.Goals as goal

pub place-requires-clause-given : goal.place-requires-clause-given
place-requires-clause-given c =
    let m = c.self.inside in
    let o = c.in-Some.object.now in
    subst (λ (h : Held). o.context.0 < h.next) c.self.view_is (context_given m.next c.args.number.0 o m.by_number.entries c.self.invariant.numbered (sym c.in-Some.ensures.value))

pub place-requires-clause-unnamed : goal.place-requires-clause-unnamed
place-requires-clause-unnamed c =
    let m = c.self.inside in
    let n = c.args.number.0 in
    let o = c.in-Some.object.now in
    let there = subst (λ (h : Held). object h n ≡ Some o) c.self.view_is (sym (lookup_object m.next n m.by_number.entries c.self.invariant.numbered) ∙ sym c.in-Some.ensures.value) in
    ap (λ (r : Option Object). is_taken_beside c.args.self.now n (context_in r).0 c.args.id) (sym there) ∙ c.requires

pub returns-in-None-clause-ok : goal.returns-in-None-clause-ok
returns-in-None-clause-ok c =
    let m = c.self.inside in
    let n = c.args.number.0 in
    let none = sym (lookup_object m.next n m.by_number.entries c.self.invariant.numbered) ∙ sym c.in-None.ensures.value in
    subst (λ (h : Held). h ≡ renamed h n c.args.id) c.self.view_is (change_absent (record { objects = values m.by_number; next = m.next; ceiling = m.ceiling }) n (λ o. record o { id = c.args.id }) none)

pub returns-in-Some-clause-ok : goal.returns-in-Some-clause-ok
returns-in-Some-clause-ok c =
    let m = c.self.inside in
    let n = c.args.number.0 in
    let o = c.in-Some.object.now in
    let there = subst (λ (h : Held). object h n ≡ Some o) c.self.view_is (sym (lookup_object m.next n m.by_number.entries c.self.invariant.numbered) ∙ sym c.in-Some.ensures.value) in
    on_ok_weaker c.place.result (λ (same : c.place.new.self ≡ change c.args.self.now n (placed o.context c.args.id)). same ∙ change_alike c.args.self.now n (placed o.context c.args.id) (λ x. record x { id = c.args.id }) o there refl) c.place.ensures.ok
