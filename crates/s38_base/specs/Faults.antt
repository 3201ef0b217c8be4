-- Counts of faults: how often a thing outside the program has failed. A count never falls, and stays
-- at its last value.
use Rattle.std.specs.Prelude.{◌≡◌, ℕ, ◌+◌, ◌-◌, ◌^◌, ◌≤◌, min, Result, IfErr, OnErr}

-- one more, up to the last value of a count
abbrev pub counted : ℕ → ℕ
counted n = min (n + 1) (2 ^ 64 - 1)

-- the count rose: it is higher now, or stays at its last value
abbrev pub Rose : ℕ → ℕ → Type 0
Rose before now = counted before ≤ now

-- of a call that reaches outside: its count does not fall, and a call that failed is counted
pub record HasCause {T E : Type 0} (before now : ℕ) (result : Result T E) : Type 0 where
  pub later : before ≤ now
  pub failed : OnErr result (Rose before now)

-- the same of a call with several errors, of which one says that the outside failed
pub record HasCauseOf {T E : Type 0} (before now : ℕ) (result : Result T E) (error : E) : Type 0 where
  pub later : before ≤ now
  pub failed : IfErr result (λ e. e ≡ error → Rose before now)
