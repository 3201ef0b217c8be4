-- Bytes replaced by others.
use Rattle.std.specs.Prelude.{ℕ, List, [], ◌∷◌, ◌==◌, if◌then◌else◌}

-- the byte of `by` at the place where c is found first in `place`; c itself where it is not found
abbrev pub translated : List ℕ → List ℕ → ℕ → ℕ
translated [] by c = c
translated (p ∷ place) [] c = c
translated (p ∷ place) (q ∷ by) c = if p == c then q else translated place by c
