-- What is left in a receiver when bytes are copied into it.
use Rattle.std.specs.Prelude.{ℕ, ◌-◌, List, ◌++◌, length, take, drop, replicate}

-- at the left, the rest as it was
abbrev pub copied_left : List ℕ → List ℕ → List ℕ
copied_left into from = take (length into) from ++ drop (length from) into

-- at the right, the rest as it was
abbrev pub copied_right : List ℕ → List ℕ → List ℕ
copied_right into from = take (length into - length from) into ++ drop (length from - length into) from

-- cut to n bytes, or filled up to n with a byte
abbrev pub filled : ℕ → ℕ → List ℕ → List ℕ
filled n pad from = take n from ++ replicate (n - length from) pad
