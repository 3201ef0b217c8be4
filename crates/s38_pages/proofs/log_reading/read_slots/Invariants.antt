use Rattle.std.proofs.Common.{◌≡◌, ◌≤◌, ℕ, length, take}
use Rattle.std.specs.Vec.{vec_capacity}
use Rattle.s38_redo_log.specs.Store.{AreHomes, log_count, log_of, targets}
use Rattle.s38_disk.specs.Blocks.{DiskState}
use Rattle.s38_disk.specs.Disk.{IsAt}
use Rattle.s38_pages.specs.Index.{marked}
use Rattle.s38_pages.proofs.log_reading.read_slots.Given as goal

-- the entries so far are read, and have homes of their own
abbrev pub invariant-loop-k : goal.invariant-loop-k
invariant-loop-k g l = record {
  past : (g.D.Disk.view l.disk).past ≡ (g.D.Disk.view l.initial.disk).past;
  size : (g.D.Disk.view l.disk).size ≡ (g.D.Disk.view l.initial.disk).size;
  faults : (g.D.Disk.view l.disk).faults ≡ (g.D.Disk.view l.initial.disk).faults;
  len : length l.slots.items ≡ l.k;
  capacity : l.count ≤ vec_capacity l.slots;
  homes : AreHomes l.layout l.slots.items;
  seen : (h : ℕ) → marked l.seen.items h ≡ targets l.slots.items h;
  seen_len : length l.seen.items ≡ l.layout.size;
  read : (s : DiskState) → IsAt (g.D.Disk.view l.initial.disk).past s → log_count s.now ≡ l.count → l.slots.items ≡ take l.k (log_of s.now);
}
