use Rattle.std.proofs.Common.{◌≤◌, ◌<◌, ◌∙◌, arith, length, sym}
use Rattle.s38_indexes.specs.Leaves.{misses}
use Rattle.s38_indexes.proofs.LookupLaws.{found_at, found_nowhere}
use Rattle.s38_indexes.proofs.lookup.least_past.Goals as goal

pub returns-then-at-leaves : goal.returns-then-at-leaves
returns-then-at-leaves c =
    let leaves = c.args.leaves.now in
    let last = c.if-at-leaves.true in
    let high : length leaves ≤ c.first_passing-at.result = omega arith in
    sym (found_nowhere (misses c.args.relation c.args.key.now) leaves c.first_passing-at.result c.first_passing-at.ensures.value high)

pub returns : goal.returns
returns c =
    let leaves = c.args.leaves.now in
    let bound = c.first_passing-at.ensures.bound in
    let other = c.if-at-leaves.false in
    let low : c.first_passing-at.result < length leaves = omega arith in
    c.least_past.ensures ∙ found_at (misses c.args.relation c.args.key.now) leaves c.first_passing-at.result c.index-leaves-at.result c.first_passing-at.ensures.value low c.index-leaves-at.is
