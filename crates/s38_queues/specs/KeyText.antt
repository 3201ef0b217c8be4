-- The bytes of a key, and how they are kept in a hundred and twenty.
use Rattle.std.specs.Prelude.{◌≡◌, ℕ, ◌≤◌, List, ◌++◌, length, take, drop, replicate}
use Rattle.std.proofs.Common.{sym, ◌∙◌, ap}

-- filled with zeros
abbrev pub padded : List ℕ → List ℕ
padded text = text ++ drop (length text) (replicate 120 0)

-- the first len bytes are a key, and zeros follow it
pub record IsPadded (bytes : List ℕ) (len : ℕ) : Type 0 where
  pub short : len ≤ 120
  pub len_is : length (take len bytes) ≡ len
  pub zeros : bytes ≡ padded (take len bytes)

-- the fields of a key of these bytes
abbrev pub fields : List ℕ → List ℕ × ℕ
fields text = (padded text, length text)

abbrev both : List ℕ → ℕ → List ℕ × ℕ
both bytes len = (bytes, len)

-- so the key gives the fields back
pub fields-take : (bytes : List ℕ) (len : ℕ) → IsPadded bytes len → fields (take len bytes) ≡ both bytes len
fields-take bytes len h = ap (λ b. both b (length (take len bytes))) (sym h.zeros) ∙ ap (λ n. both bytes n) h.len_is
