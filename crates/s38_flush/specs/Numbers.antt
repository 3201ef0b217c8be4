-- The numbers of the objects that a step must persist.
use Rattle.std.specs.Prelude.{ℕ, ◌==◌, Bool, List, [], ◌∷◌, filter, nat_lt, not, if◌then◌else◌}
use Rattle.s38_laws_objects.specs.Outline.{speaks_of}
use Rattle.s38_rules.specs.store.Forcing.{Ceiling, Forced, Header, Removed, Whole}

-- a number in its place among rising ones, once
unfoldable pub with_number : ℕ → List ℕ → List ℕ
with_number n [] = n ∷ []
with_number n (m ∷ ms) = if nat_lt n m then n ∷ m ∷ ms else (if n == m then m ∷ ms else m ∷ with_number n ms)

-- the number that is spoken of, if one is
abbrev pub with_forced : List ℕ → Forced → List ℕ
with_forced ns Ceiling = ns
with_forced ns (Header n) = with_number n ns
with_forced ns (Whole n) = with_number n ns
with_forced ns (Removed n) = with_number n ns

-- beside some numbers
unfoldable pub with_all_numbers : List ℕ → List Forced → List ℕ
with_all_numbers ns [] = ns
with_all_numbers ns (one ∷ all) = with_all_numbers (with_forced ns one) all

-- in rising order, each once
abbrev pub numbers : List Forced → List ℕ
numbers all = with_all_numbers [] all

-- ---- the number of no object

-- it is not spoken of
abbrev pub is_numbered : Forced → Bool
is_numbered one = not (speaks_of 0 one)

-- what must persist, but for what speaks of it
abbrev pub numbered : List Forced → List Forced
numbered all = filter is_numbered all
