-- The text of a name, and how it is kept in thirty bytes.
use Rattle.std.specs.Prelude.{◌≡◌, ℕ, zero, suc, ◌+◌, ◌*◌, [], ◌∷◌, Bool, ◌&&◌, ◌||◌, IsTrue, List, ◌++◌, length, take, drop, replicate, nat_le, nat_lt}
use Rattle.std.specs.List.{list_all}
use Rattle.std.proofs.Common.{sym, ◌∙◌, ap}

-- A to Z and 0 to 9
abbrev pub is_name_byte : ℕ → Bool
is_name_byte c = (nat_le 65 c && nat_le c 90) || (nat_le 48 c && nat_le c 57)

abbrev pub are_name_bytes : List ℕ → Bool
are_name_bytes text = list_all is_name_byte text

-- 1 to 30 such bytes
abbrev pub is_name : List ℕ → Bool
is_name text = nat_lt 0 (length text) && (nat_le (length text) 30 && are_name_bytes text)

-- filled with zeros to thirty bytes
abbrev pub padded : List ℕ → List ℕ
padded text = text ++ drop (length text) (replicate 30 0)

-- the number that n more bytes spell after a first number, the first byte the greatest; zeros follow the text
abbrev pub front : ℕ → ℕ → List ℕ → ℕ
front start zero text = start
front start (suc n) [] = front (start * 256) n []
front start (suc n) (b ∷ bs) = front (start * 256 + b) n bs

-- the first len bytes are a name, and zeros follow it
pub record IsPadded (bytes : List ℕ) (len : ℕ) : Type 0 where
  pub name : IsTrue (is_name (take len bytes))
  pub len_is : length (take len bytes) ≡ len
  pub zeros : bytes ≡ padded (take len bytes)

-- the fields of a name of this text
abbrev pub name_fields : List ℕ → List ℕ × ℕ
name_fields text = (padded text, length text)

abbrev both : List ℕ → ℕ → List ℕ × ℕ
both bytes len = (bytes, len)

-- so the name gives the fields back
pub fields-take : (bytes : List ℕ) (len : ℕ) → IsPadded bytes len → name_fields (take len bytes) ≡ both bytes len
fields-take bytes len h = ap (λ b. both b (length (take len bytes))) (sym h.zeros) ∙ ap (λ n. both bytes n) h.len_is
