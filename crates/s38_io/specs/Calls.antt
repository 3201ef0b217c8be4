-- The calls of a source or a sink in memory: which of them are to fail, how many were made, and how many failed.
use Rattle.std.specs.Prelude.{ℕ, ◌==◌, Bool, List, if◌then◌else◌}
use Rattle.std.specs.List.{list_any}
use Rattle.s38_base.specs.Faults.{counted}

-- `failing` numbers the calls that are to fail, from 0 on
pub record CallRecord : Type 0 where
  pub failing : List ℕ
  pub made : ℕ
  pub faults : ℕ

-- the next call is listed
abbrev pub fails_next : CallRecord → Bool
fails_next calls = list_any (λ n. n == calls.made) calls.failing

-- the count of faults after a call: one more where it failed, and else the same
abbrev pub faults_after : ℕ → Bool → ℕ
faults_after before failed = if failed then counted before else before

-- one more call was made, and it failed or not
abbrev pub after_call : CallRecord → Bool → CallRecord
after_call calls failed =
    record { failing = calls.failing; made = counted calls.made; faults = faults_after calls.faults failed }
