use Rattle.std.proofs.Common.{◌≡◌, ◌+◌, ◌-◌, ◌<◌, ◌∙◌, arith, length, sym, false, subst}
use Rattle.std.specs.List.{AllWithin}
use Rattle.s38_indexes.specs.Entries.{is_in_relation}
use Rattle.s38_indexes.specs.Leaves.{has}
use Rattle.s38_indexes.proofs.LookupLaws.{found_last, none_back}
use Rattle.s38_indexes.proofs.lookup.greatest.Goals as goal

pub returns-then-count-eq0 : goal.returns-then-count-eq0
returns-then-count-eq0 c =
    let relation = c.args.relation in
    let key = c.args.key.now in
    let leaves = c.args.leaves.now in
    sym (none_back (is_in_relation relation key) leaves (subst (λ n. AllWithin (λ leaf. has relation key leaf ≡ false) leaves n (length leaves)) c.if-count-eq0.true c.count_having-count.ensures.rest))

pub returns : goal.returns
returns c =
    let leaves = c.args.leaves.now in
    let n = c.count_having-count.result in
    let some = c.if-count-eq0.false in
    let bound = c.count_having-count.ensures.bound in
    let next : n ≡ (n - 1) + 1 = omega arith in
    let low : n - 1 < length leaves = omega arith in
    c.greatest.ensures ∙ found_last (is_in_relation c.args.relation c.args.key.now) leaves n (n - 1) c.index-leaves-count.result next low c.index-leaves-count.is c.count_having-count.ensures.first c.count_having-count.ensures.rest
