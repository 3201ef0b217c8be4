use Rattle.std.proofs.Common.{◌≡◌, ◌∙◌, ◌++◌, List, ap, false, sym, true}
use Rattle.std.specs.FinMap.{get}
use Rattle.std.specs.List.{list_any}
use Rattle.s38_base.specs.declared.page.Change.{Change}
use Rattle.s38_page_diff.specs.Differences.{differences}
use Rattle.s38_page_diff.specs.reconcile.Replacing.{range_of}
use Rattle.s38_rules.specs.store.Forcing.{is_whole}
use Rattle.s38_flush.proofs.EachLaws.{header_followed, header_off, header_whole, there_followed, there_whole}
use Rattle.s38_flush.proofs.FollowedLaws.{always, on_ok}
use Rattle.s38_space_map.specs.Forcings.{all_forced}
use Rattle.s38_flush.proofs.objects.add_there.Goals as goal

pub returns-then-forces_whole-clause-told : goal.returns-then-forces_whole-clause-told
returns-then-forces_whole-clause-told g c =
    let o = c.args.object.now in
    let h = c.args.objects.now in
    let us = c.args.units.now in
    let all = all_forced c.args.all.now in
    let forced : list_any (is_whole o.number.0) all ≡ true = sym c.forces_whole.ensures ∙ c.if-forces_whole.true in
    on_ok c.add_forced.result _ _
    (λ told m d s held p.
    told m d s held p ∙ ap (λ (cs : List Change). c.args.into.now.items ++ differences (get m) (range_of o.number.0) cs) (sym (there_whole all h us m d s o p c.if-not-object.false forced)))
    c.add_forced.ensures.told

pub returns-clause-told : goal.returns-clause-told
returns-clause-told g c =
    let o = c.args.object.now in
    let all = all_forced c.args.all.now in
    let not : list_any (is_whole o.number.0) all ≡ false = sym c.forces_whole.ensures ∙ c.if-forces_whole.false in
    on_ok c.add_followed.result _ _
    (λ told m d s held p.
    told m d s held p ∙ ap (λ (cs : List Change). c.args.into.now.items ++ differences (get m) (range_of o.number.0) cs) (sym (there_followed all s d.objects o c.if-not-object.false not)))
    c.add_followed.ensures.told

pub returns-then-not-object-clause-header : goal.returns-then-not-object-clause-header
returns-then-not-object-clause-header g c =
    let o = c.args.object.now in
    let all = all_forced c.args.all.now in
    always c.add_gone.result _ (λ m d s held p. header_off all s d.objects o c.if-not-object.true)

pub returns-then-forces_whole-clause-header : goal.returns-then-forces_whole-clause-header
returns-then-forces_whole-clause-header g c =
    let o = c.args.object.now in
    let h = c.args.objects.now in
    let us = c.args.units.now in
    let all = all_forced c.args.all.now in
    let forced : list_any (is_whole o.number.0) all ≡ true = sym c.forces_whole.ensures ∙ c.if-forces_whole.true in
    always c.add_forced.result _ (λ m d s held p. header_whole all h us m d s o p c.if-not-object.false forced c.add_forced.ensures.header)

pub returns-clause-header : goal.returns-clause-header
returns-clause-header g c =
    let o = c.args.object.now in
    let all = all_forced c.args.all.now in
    let not : list_any (is_whole o.number.0) all ≡ false = sym c.forces_whole.ensures ∙ c.if-forces_whole.false in
    on_ok c.add_followed.result _ _ (λ has m d s held p. header_followed all s d.objects o c.if-not-object.false not (has m d s held p)) c.add_followed.ensures.header
