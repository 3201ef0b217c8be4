use Rattle.std.proofs.Common.{◌≡◌, ◌≤◌, ◌+◌, take}
use Rattle.std.specs.FinMap.{get}
use Rattle.std.specs.Vec.{vec_capacity, vec_len}
use Rattle.s38_redo_log.specs.declared.layout.Layout.{Layout}
use Rattle.s38_pages.specs.Index.{AreFreeHomes, IsHomeIndex, Planned, Tallied, marked}
use Rattle.s38_pages.proofs.plan.plan.Given as goal

-- the changes so far are planned
abbrev pub invariant-loop-change : goal.invariant-loop-change
invariant-loop-change l = record {
  planned : (lay : Layout) → AreFreeHomes lay l.initial.marks → IsHomeIndex lay (get l.initial.homes.values) (marked l.initial.marks)
      → Planned lay (get l.initial.homes.values) (get l.homes.values) (marked l.marks) l.slots.items (take l.change-index l.changes);
  tallied : Tallied l.initial.homes.values l.homes.values l.initial.marks l.marks l.slots.items (take l.change-index l.changes);
  free : (lay : Layout) → AreFreeHomes lay l.initial.marks → AreFreeHomes lay l.marks;
  room : l.initial.homes.spare ≤ l.homes.spare + l.change-index;
  slots : vec_len l.slots ≤ l.change-index;
  capacity : vec_capacity l.slots ≡ vec_capacity l.initial.slots;
}
