use Rattle.std.proofs.Common.{◌≡◌}
use Rattle.std.specs.FinMap.{get}
use Rattle.s38_disk.specs.Blocks.{DiskState}
use Rattle.s38_disk.specs.Disk.{IsAt}
use Rattle.s38_pages.specs.Scan.{IsScannedTo, Scanned, homes_of}
use Rattle.s38_pages.proofs.scan.read_homes.Given as goal

-- the homes so far are noted
abbrev pub invariant-loop-at : goal.invariant-loop-at
invariant-loop-at g l = record {
  past : (g.D.Disk.view l.disk).past ≡ (g.D.Disk.view l.initial.disk).past;
  size : (g.D.Disk.view l.disk).size ≡ (g.D.Disk.view l.initial.disk).size;
  faults : (g.D.Disk.view l.disk).faults ≡ (g.D.Disk.view l.initial.disk).faults;
  keeps : IsScannedTo l.layout (homes_of l.homes) l.marks l.at;
  scanned : (s : DiskState) → IsAt (g.D.Disk.view l.initial.disk).past s → Scanned l.layout s.now (get (homes_of l.homes)) l.at;
}
