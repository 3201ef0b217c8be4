use Rattle.std.proofs.Common.{◌≡◌, ◌++◌, take, drop}
use Rattle.s38_flush.specs.Numbers.{with_number}
use Rattle.s38_flush.proofs.numbers.add_number.Given as goal

-- the numbers so far are less
abbrev pub invariant-loop-at : goal.invariant-loop-at
invariant-loop-at l = record {
  same : l.into ≡ l.fn.into;
  place : with_number l.fn.number l.fn.into.items ≡ take l.at l.fn.into.items ++ with_number l.fn.number (drop l.at l.fn.into.items);
}
