-- What a source gives: bytes from the front of what is left, where that is told.
use Rattle.std.specs.Prelude.{◌≡◌, ℕ, ◌+◌, ◌<◌, ◌≤◌, List, length, take, drop, Option, Some, Result, IfOk, IfSome, MatchResult}
use Rattle.std.specs.Io.KnownBytes.{Consumes, Keeps, IsAtEnd}

-- Ok(n): n bytes, and no more than there was room for
abbrev pub ReadsAtMost : {E : Type 0} → Result ℕ E → List ℕ → Type 0
ReadsAtMost r piece = IfOk r (λ n. n ≤ length piece)

-- Ok(n): the first n bytes of the piece are those that came next, and are no longer left; 0 with room in the piece
-- only at the end. Failed: what is left stays.
abbrev pub Takes : {E : Type 0} → Option (List ℕ) → Option (List ℕ) → Result ℕ E → List ℕ → Type 0
Takes old new r piece =
    MatchResult r (λ n. Consumes old new (take n piece) × (n ≡ 0 → 0 < length piece → IsAtEnd new)) (λ _. Keeps old new)

-- all that was left, up to a number of bytes, and what is left lacks it
pub record IsRead (most : ℕ) (old : List ℕ) (new : Option (List ℕ)) (bytes : List ℕ) : Type 0 where
  pub front : bytes ≡ take most old
  pub rest : new ≡ Some (drop (length bytes) old)

-- the same, where it is told what is left
abbrev pub ReadsAll : ℕ → Option (List ℕ) → Option (List ℕ) → List ℕ → Type 0
ReadsAll most old new bytes = IfSome old (λ xs. IsRead most xs new bytes)

-- some bytes from the front are no longer left
abbrev pub LosesFront : Option (List ℕ) → Option (List ℕ) → Type 0
LosesFront old new = (bytes : List ℕ) × Consumes old new bytes

-- n bytes came next and were added after the others, 0 with room only at the end
pub record AddsPiece (old new : Option (List ℕ)) (before after : List ℕ) (room n : ℕ) : Type 0 where
  pub fits : n ≤ room
  pub grows : length after ≡ length before + n
  pub same : take (length before) after ≡ before
  pub next : Consumes old new (drop (length before) after)
  pub at_end : n ≡ 0 → 0 < room → IsAtEnd new
