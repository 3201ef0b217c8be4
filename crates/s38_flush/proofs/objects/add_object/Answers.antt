use Rattle.std.proofs.Common.{◌≡◌, ◌∙◌, ◌++◌, List, None, Some, ap, subst, sym, ℕ}
use Rattle.std.specs.FinMap.{get}
use Rattle.std.specs.Option.{option_copied}
use Rattle.s38_base.specs.declared.page.Change.{Change}
use Rattle.s38_page_diff.specs.Differences.{differences}
use Rattle.s38_image_writer.specs.Parts.{CanSettle}
use Rattle.s38_page_diff.specs.reconcile.Replacing.{range_of}
use Rattle.s38_rules.specs.state.Held.{object}
use Rattle.s38_rules.specs.store.Storable.{IsStorable}
use Rattle.s38_durable_state.specs.Represents.{parts_in}
use Rattle.s38_flush.proofs.EachLaws.{found_at, found_is, found_own, kept_number_none, kept_number_there, number_none, number_there}
use Rattle.s38_flush.proofs.FollowedLaws.{always, on_ok}
use Rattle.s38_space_map.specs.Forcings.{all_forced}
use Rattle.s38_flush.specs.Fronts.{AddsAt}
use Rattle.s38_flush.specs.Stepping.{HasHeaderIn, IsNumber, kept_there}
use Rattle.s38_flush.proofs.objects.add_object.Goals as goal

pub add_there-requires-clause-object : goal.add_there-requires-clause-object
add_there-requires-clause-object g c =
    let there : object c.args.objects.now c.args.number ≡ Some c.in-Some.object.now = sym c.get.ensures ∙ ap (λ r. option_copied r) c.in-Some.is in
    found_is IsStorable c.args.objects.now c.args.number c.in-Some.object.now c.requires.storable there

pub add_there-requires-clause-units : goal.add_there-requires-clause-units
add_there-requires-clause-units g c =
    let there : object c.args.objects.now c.args.number ≡ Some c.in-Some.object.now = sym c.get.ensures ∙ ap (λ r. option_copied r) c.in-Some.is in
    found_is (λ o. CanSettle c.args.units.now o.number.0 o.body) c.args.objects.now c.args.number c.in-Some.object.now c.requires.settles there

pub add_there-requires-clause-number : goal.add_there-requires-clause-number
add_there-requires-clause-number g c =
    let there : object c.args.objects.now c.args.number ≡ Some c.in-Some.object.now = sym c.get.ensures ∙ ap (λ r. option_copied r) c.in-Some.is in
    subst IsNumber (sym (found_at c.args.objects.now c.args.number c.in-Some.object.now there)) c.requires.number

pub add_there-requires-clause-there : goal.add_there-requires-clause-there
add_there-requires-clause-there g c =
    let there : object c.args.objects.now c.args.number ≡ Some c.in-Some.object.now = sym c.get.ensures ∙ ap (λ r. option_copied r) c.in-Some.is in
    found_own c.args.objects.now c.args.number c.in-Some.object.now there

pub returns-in-Some-clause-told : goal.returns-in-Some-clause-told
returns-in-Some-clause-told g c =
    let h = c.args.objects.now in
    let us = c.args.units.now in
    let all = all_forced c.args.all.now in
    let o = c.in-Some.object.now in
    let n = c.args.number in
    let there : object h n ≡ Some o = sym c.get.ensures ∙ ap (λ r. option_copied r) c.in-Some.is in
    let own : o.number.0 ≡ n = found_at h n o there in
    on_ok c.add_there.result _ _
    (λ told m d s held p.
    told m d s held p
    ∙ ap (λ (k : ℕ). c.args.into.now.items ++ differences (get m) (range_of k) (parts_in (kept_there all s d.objects o))) own
    ∙ ap (λ (cs : List Change). c.args.into.now.items ++ differences (get m) (range_of n) cs) (sym (number_there all h us m d s p n c.requires.number.1 c.len-count.ensures.lawful.rising o there)))
    c.add_there.ensures.told

pub returns-in-Some-clause-adds : goal.returns-in-Some-clause-adds
returns-in-Some-clause-adds g c =
    let there : object c.args.objects.now c.args.number ≡ Some c.in-Some.object.now = sym c.get.ensures ∙ ap (λ r. option_copied r) c.in-Some.is in
    on_ok c.add_there.result _ _
    (λ adds. subst (λ (k : ℕ). AddsAt k c.args.into.now.items c.add_there.new.into.items) (found_at c.args.objects.now c.args.number c.in-Some.object.now there) adds) c.add_there.ensures.adds

pub returns-in-None-clause-told : goal.returns-in-None-clause-told
returns-in-None-clause-told g c =
    let h = c.args.objects.now in
    let us = c.args.units.now in
    let all = all_forced c.args.all.now in
    let n = c.args.number in
    let none : object h n ≡ None = sym c.get.ensures ∙ ap (λ r. option_copied r) c.in-None.is in
    on_ok c.add_gone.result _ _
    (λ told m d s held p.
    told m held ∙ ap (λ (cs : List Change). c.args.into.now.items ++ differences (get m) (range_of n) cs) (sym (number_none all h us m d s p n c.requires.number.1 c.len-count.ensures.lawful.rising none)))
    c.add_gone.ensures.told

pub returns-in-Some-clause-header : goal.returns-in-Some-clause-header
returns-in-Some-clause-header g c =
    let h = c.args.objects.now in
    let us = c.args.units.now in
    let all = all_forced c.args.all.now in
    let o = c.in-Some.object.now in
    let n = c.args.number in
    let there : object h n ≡ Some o = sym c.get.ensures ∙ ap (λ r. option_copied r) c.in-Some.is in
    on_ok c.add_there.result _ _
    (λ has m d s held p. subst HasHeaderIn (sym (kept_number_there all h us m d s p n c.requires.number.1 c.len-count.ensures.lawful.rising o there)) (has m d s held p))
    c.add_there.ensures.header

pub returns-in-None-clause-header : goal.returns-in-None-clause-header
returns-in-None-clause-header g c =
    let h = c.args.objects.now in
    let us = c.args.units.now in
    let all = all_forced c.args.all.now in
    let n = c.args.number in
    let none : object h n ≡ None = sym c.get.ensures ∙ ap (λ r. option_copied r) c.in-None.is in
    always c.add_gone.result _ (λ m d s held p. subst HasHeaderIn (sym (kept_number_none all h us m d s p n c.requires.number.1 c.len-count.ensures.lawful.rising none)) tt)
