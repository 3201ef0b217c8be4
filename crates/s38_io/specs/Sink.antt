-- What a sink was given: bytes after what was written, where that is told.
use Rattle.std.specs.Prelude.{◌≡◌, ℕ, List, take, drop, Option, Result, MatchResult}
use Rattle.std.specs.Io.KnownBytes.{Appends}

-- some prefix of the piece was added
abbrev pub AppendsFront : Option (List ℕ) → Option (List ℕ) → List ℕ → Type 0
AppendsFront old new piece = (n : ℕ) × Appends old new (take n piece)

-- Ok: the piece was added. Failed: some prefix of it was.
abbrev pub Puts : {T E : Type 0} → Option (List ℕ) → Option (List ℕ) → Result T E → List ℕ → Type 0
Puts old new r piece = MatchResult r (λ _. Appends old new piece) (λ _. AppendsFront old new piece)

-- the front of a piece was added, and the rest of it is still to come
pub record Written (old new : Option (List ℕ)) (piece rest : List ℕ) : Type 0 where
  pub count : ℕ
  pub added : Appends old new (take count piece)
  pub to_come : rest ≡ drop count piece
