use Rattle.std.proofs.Common.{◌≡◌, filter, take}
use Rattle.s38_flush.specs.Putting.{is_of_none, is_of_one}
use Rattle.s38_flush.proofs.turns.split.Given as goal

-- the changes so far are split
abbrev pub invariant-loop-change : goal.invariant-loop-change
invariant-loop-change l = record {
  first : l.first.items ≡ filter (is_of_one l.objects) (take l.change-index l.changes);
  later : l.later.items ≡ filter (is_of_none l.objects) (take l.change-index l.changes);
}
