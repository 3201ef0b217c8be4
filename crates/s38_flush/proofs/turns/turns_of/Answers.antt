use Rattle.std.proofs.Common.{◌≡◌, ◌∙◌, List, ap, arith, false, filter, length, subst, sym}
use Rattle.std.proofs.lemmas.Bool.Decides.{nat_tests}
use Rattle.std.specs.Prelude.{nat_le}
use Rattle.s38_base.specs.declared.page.Change.{Change}
use Rattle.s38_flush.proofs.TurnLaws.{first_split, if_both, if_ok, later_split, new_split, same_split, turns_split, turns_whole}
use Rattle.s38_flush.specs.Putting.{AreTurns, is_of_none, is_of_one}
use Rattle.s38_flush.proofs.turns.turns_of.Goals as goal

pub returns-then-len-most-clause-turns : goal.returns-then-len-most-clause-turns
returns-then-len-most-clause-turns c =
    subst (λ (cs : List Change). AreTurns c.args.changes.items cs) (sym c.new-later.ensures.items) (turns_whole c.args.changes.items c.requires.rising c.requires.objects)

pub returns-clause-first : goal.returns-clause-first
returns-clause-first c =
    let h = c.args.objects.now in
    let cs = c.args.changes.items in
    let many : nat_le (length cs) c.args.most ≡ false = grind (arith, nat_tests, c.if-len-most.false, c.len.ensures) in
    if_ok c.split.result _ _ c.split.ensures.first (λ turns is all d s held.
    is ∙ ap (filter (is_of_one h)) c.deref.ensures.value ∙ first_split all d s h held c.len-count.ensures.lawful.rising c.args.most cs c.requires.objects many)

pub returns-clause-later : goal.returns-clause-later
returns-clause-later c =
    let h = c.args.objects.now in
    let cs = c.args.changes.items in
    let many : nat_le (length cs) c.args.most ≡ false = grind (arith, nat_tests, c.if-len-most.false, c.len.ensures) in
    if_ok c.split.result _ _ c.split.ensures.later (λ turns is all d s held.
    is ∙ ap (filter (is_of_none h)) c.deref.ensures.value ∙ later_split all d s h held c.len-count.ensures.lawful.rising c.args.most cs c.requires.objects many)

pub returns-clause-turns : goal.returns-clause-turns
returns-clause-turns c =
    let h = c.args.objects.now in
    if_both c.split.result _ _ _ c.split.ensures.first c.split.ensures.later (λ turns first later.
    turns_split h c.args.changes.items turns.first.items turns.later.items c.requires.rising c.requires.objects (first ∙ ap (filter (is_of_one h)) c.deref.ensures.value) (later ∙ ap (filter (is_of_none h)) c.deref.ensures.value))

pub returns-clause-same : goal.returns-clause-same
returns-clause-same c =
    let h = c.args.objects.now in
    if_both c.split.result _ _ _ c.split.ensures.first c.split.ensures.later (λ turns first later m.
    same_split h c.args.changes.items turns.first.items turns.later.items m (first ∙ ap (filter (is_of_one h)) c.deref.ensures.value) (later ∙ ap (filter (is_of_none h)) c.deref.ensures.value))

pub returns-clause-keys : goal.returns-clause-keys
returns-clause-keys c =
    let h = c.args.objects.now in
    if_both c.split.result _ _ _ c.split.ensures.first c.split.ensures.later (λ turns first later keys.
    new_split h c.args.changes.items turns.first.items turns.later.items keys (first ∙ ap (filter (is_of_one h)) c.deref.ensures.value) (later ∙ ap (filter (is_of_none h)) c.deref.ensures.value))
