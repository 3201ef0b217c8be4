use Rattle.std.proofs.Common.{arith}
use Rattle.s38_pages.proofs.Marking.{all_marked}
use Rattle.s38_pages.proofs.marks.lowest_from.Goals as goal

-- some block is free
pub returns-clause-free : goal.returns-clause-free
returns-clause-free c =
    let none = all_marked c.args.used.now (λ i le. c.loop-home.invariant.below i (omega arith)) in
    absurd (omega (arith, none, c.requires.some))

pub returns-clause-within : goal.returns-clause-within
returns-clause-within c =
    let none = all_marked c.args.used.now (λ i le. c.loop-home.invariant.below i (omega arith)) in
    absurd (omega (arith, none, c.requires.some))
