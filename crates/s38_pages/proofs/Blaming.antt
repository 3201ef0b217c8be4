-- Whose faults the faults of a vault are.
use Rattle.std.proofs.Common.{◌≡◌, ℕ, ◌≤◌, Bool, true, false, Result, Ok, Err, sym, ◌∙◌, arith}
use Rattle.std.specs.Prelude.{OnErr, is_ok}
use Rattle.std.proofs.lemmas.Bool.{true≢false}
use Rattle.s38_base.specs.Faults.{HasCause, Rose}
use Rattle.s38_disk.specs.Disk.{DiskView}
use Rattle.s38_pages.specs.Vaults.{AreOfDisk}

-- a count that rose since later rose since earlier
pub rose_since : (start before now : ℕ) → start ≤ before → Rose before now → Rose start now
rose_since start before now le rose = omega (arith, le, rose)

-- a disk that was only read
pub of_read : {start refused : ℕ} {v w : DiskView} {good : Bool} → v.faults ≤ w.faults → AreOfDisk start v good refused → AreOfDisk start w good refused
of_read {start} {refused} {v} {w} later r = record {
  later = omega (arith, later, r.later);
  failed = λ e. let rose = r.failed e in omega (arith, later, rose);
  none = r.none;
}

-- a put of a vault that had not failed
pub of_put : {T E : Type 0} {start refused : ℕ} {v w : DiskView} {good ok : Bool} (result : Result T E) → good ≡ true → ok ≡ is_ok result → HasCause v.faults w.faults result → AreOfDisk start v good refused → AreOfDisk start w ok refused
of_put {start = start} {refused = refused} {v = v} {w = w} {ok = ok} result was is cause r = record {
  later = omega (arith, r.later, cause.later);
  failed = by result cause.failed is;
  none = λ e. r.none was;
}
  where
    by : {T E : Type 0} (result : Result T E) → OnErr result (Rose v.faults w.faults) → ok ≡ is_ok result → ok ≡ false → Rose start w.faults
    by (Ok x) rose is lost = absurd (true≢false (sym is ∙ lost))
    by (Err e) rose is lost = rose_since start v.faults w.faults r.later rose
