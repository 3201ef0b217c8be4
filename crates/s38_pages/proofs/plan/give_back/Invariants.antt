use Rattle.std.proofs.Common.{take}
use Rattle.s38_pages.proofs.Giving.{Given}
use Rattle.s38_pages.proofs.plan.give_back.Given as goal

-- the homes so far are given back
abbrev pub invariant-loop-slot : goal.invariant-loop-slot
invariant-loop-slot l = record { given : Given l.initial.marks l.marks (take l.slot-index l.slots) }
