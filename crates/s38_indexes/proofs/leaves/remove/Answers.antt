use Rattle.std.proofs.Common.{◌≤◌, ◌<◌, ◌∙◌, List, ap, arith, get_or, length, subst, sym, []}
use Rattle.std.specs.Prelude.{remove}
use Rattle.s38_indexes.specs.Entries.{IndexEntry, without_entry}
use Rattle.s38_indexes.specs.Leaves.{NoneEmpty, first_reaching, joined}
use Rattle.s38_indexes.proofs.LeafLaws.{kept_all, others_after, removed_in}
use Rattle.s38_indexes.proofs.LookupLaws.{held_inside, held_past}
use Rattle.s38_indexes.proofs.OrderLaws.{without_none}
use Rattle.s38_indexes.proofs.leaves.remove.Goals as goal

pub returns-then-at-len-clause-held : goal.returns-then-at-len-clause-held
returns-then-at-len-clause-held c =
    let key = c.args.key.now in
    let leaves = c.args.leaves.now.items in
    let at = c.first_reaching-at.result in
    let first = c.first_reaching-at.ensures.value ∙ ap (first_reaching key) c.deref.ensures.value in
    let length_is = c.len.ensures in
    let last = c.if-at-len.true in
    let high : length leaves ≤ at = omega arith in
    sym (held_past key leaves at c.requires.rising first high)

pub returns-then-at-len-clause-rest : goal.returns-then-at-len-clause-rest
returns-then-at-len-clause-rest c =
    let key = c.args.key.now in
    let leaves = c.args.leaves.now.items in
    let at = c.first_reaching-at.result in
    let first = c.first_reaching-at.ensures.value ∙ ap (first_reaching key) c.deref.ensures.value in
    let length_is = c.len.ensures in
    let last = c.if-at-len.true in
    let high : length leaves ≤ at = omega arith in
    without_none key (joined leaves) (held_past key leaves at c.requires.rising first high)

pub returns-then-not-remove_at-clause-held : goal.returns-then-not-remove_at-clause-held
returns-then-not-remove_at-clause-held c =
    let key = c.args.key.now in
    let leaves = c.args.leaves.now.items in
    let at = c.first_reaching-at.result in
    let first = c.first_reaching-at.ensures.value ∙ ap (first_reaching key) c.deref.ensures.value in
    sym (held_inside key leaves at c.requires.rising first ∙ sym c.remove_at.ensures.held ∙ c.if-not-remove_at.true)

pub returns-then-not-remove_at-clause-rest : goal.returns-then-not-remove_at-clause-rest
returns-then-not-remove_at-clause-rest c =
    let key = c.args.key.now in
    let leaves = c.args.leaves.now.items in
    let at = c.first_reaching-at.result in
    let first = c.first_reaching-at.ensures.value ∙ ap (first_reaching key) c.deref.ensures.value in
    let absent = sym c.remove_at.ensures.held ∙ c.if-not-remove_at.true in
    ap joined (kept_all key leaves c.remove_at.new.leaves.items at absent c.remove_at.ensures.rest)
    ∙ without_none key (joined leaves) (held_inside key leaves at c.requires.rising first ∙ absent)

pub returns-then-not-remove_at-clause-none_empty : goal.returns-then-not-remove_at-clause-none_empty
returns-then-not-remove_at-clause-none_empty c =
    let absent = sym c.remove_at.ensures.held ∙ c.if-not-remove_at.true in
    subst NoneEmpty (sym (kept_all c.args.key.now c.args.leaves.now.items c.remove_at.new.leaves.items c.first_reaching-at.result absent c.remove_at.ensures.rest)) c.requires.none_empty

pub drop_empty-requires-clause-others : goal.drop_empty-requires-clause-others
drop_empty-requires-clause-others c =
    let key = c.args.key.now in
    let leaves = c.args.leaves.now.items in
    let at = c.first_reaching-at.result in
    let first = c.first_reaching-at.ensures.value ∙ ap (first_reaching key) c.deref.ensures.value in
    let bound = c.first_reaching-at.ensures.bound in
    let same = ap (λ (ls : List (List IndexEntry)). length ls) c.deref.ensures.value in
    let length_is = c.len.ensures in
    let other = c.if-at-len.false in
    let low : at < length leaves = omega arith in
    subst (λ ls. NoneEmpty (remove ls at)) (sym c.remove_at.ensures.rest) (others_after (λ (l : List IndexEntry). 1 ≤ length l) leaves at (without_entry key (get_or leaves at [])) low c.requires.none_empty)

pub returns-clause-held : goal.returns-clause-held
returns-clause-held c =
    let key = c.args.key.now in
    let leaves = c.args.leaves.now.items in
    let at = c.first_reaching-at.result in
    let first = c.first_reaching-at.ensures.value ∙ ap (first_reaching key) c.deref.ensures.value in
    sym (held_inside key leaves at c.requires.rising first ∙ sym c.remove_at.ensures.held ∙ c.if-not-remove_at.false)

pub returns-clause-rest : goal.returns-clause-rest
returns-clause-rest c =
    let key = c.args.key.now in
    let leaves = c.args.leaves.now.items in
    let at = c.first_reaching-at.result in
    let first = c.first_reaching-at.ensures.value ∙ ap (first_reaching key) c.deref.ensures.value in
    let bound = c.first_reaching-at.ensures.bound in
    let same = ap (λ (ls : List (List IndexEntry)). length ls) c.deref.ensures.value in
    let length_is = c.len.ensures in
    let other = c.if-at-len.false in
    let low : at < length leaves = omega arith in
    c.drop_empty.ensures.same ∙ removed_in key leaves c.remove_at.new.leaves.items at first low (sym c.remove_at.ensures.held ∙ c.if-not-remove_at.false) c.remove_at.ensures.rest
