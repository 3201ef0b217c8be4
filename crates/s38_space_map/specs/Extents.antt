-- Extents in rising order of number: how one is put among them, and how one is taken out.
use Rattle.std.specs.Prelude.{ℕ, ◌<◌, ◌==◌, Bool, false, List, [], ◌∷◌, Option, Some, None, filter, nat_lt, not, slice_get, suc, if◌then◌else◌}
use Rattle.s38_rules.specs.store.Room.{Extent, extent_at, is_extent_of, parts_of}

-- a number is less than that of each extent
abbrev pub IsBelowAll : ℕ → List Extent → Type 0
IsBelowAll n [] = Unit {0}
IsBelowAll n (x ∷ xs) = (n < x.number) × IsBelowAll n xs

-- each number is less than those after it
abbrev pub AreRising : List Extent → Type 0
AreRising [] = Unit {0}
AreRising (x ∷ xs) = IsBelowAll x.number xs × AreRising xs

-- how many have a lesser number
abbrev pub count_before : ℕ → List Extent → ℕ
count_before n [] = 0
count_before n (x ∷ xs) = if nat_lt x.number n then suc (count_before n xs) else 0

-- the extents without that of a number
abbrev pub without : ℕ → List Extent → List Extent
without n xs = filter (λ x. not (is_extent_of n x)) xs

-- the extents, with this one in place of that of its number
abbrev pub with_extent : Extent → List Extent → List Extent
with_extent new [] = new ∷ []
with_extent new (x ∷ xs) =
    if nat_lt x.number new.number then x ∷ with_extent new xs else (if x.number == new.number then new ∷ xs else new ∷ x ∷ xs)

abbrev pub is_of : ℕ → Option Extent → Bool
is_of n None = false
is_of n (Some x) = is_extent_of n x

-- the extent at a place is that of a number
abbrev pub is_there : ℕ → ℕ → List Extent → Bool
is_there n at xs = is_of n (slice_get xs at)

abbrev pub extent_of : ℕ → Option Extent → Option Extent
extent_of n None = None
extent_of n (Some x) = if x.number == n then Some x else None

abbrev pub parts_in : Option Extent → ℕ
parts_in None = 0
parts_in (Some x) = parts_of x

-- the extent at a place, if it is that of a number
abbrev pub extent_there : ℕ → ℕ → List Extent → Option Extent
extent_there n at xs = extent_of n (slice_get xs at)

-- how many parts the extent of a number has
abbrev pub parts_at : ℕ → List Extent → ℕ
parts_at n xs = parts_in (extent_at xs n)
