-- Which entry is sought, among those that are not deleted.
use Rattle.std.specs.Prelude.{◌≡◌, ℕ, zero, suc, ◌+◌, ◌-◌, ◌≤◌, ◌==◌, nat_lt, IsTrue, Bool, true, false, Option, Some, None, List, length, min, drop, if◌then◌else◌, is_some, option_map, position, slice_get}
use Rattle.std.specs.Option.{unwrap_or}
use Rattle.s38_base.specs.declared.words.Seek.{Seek}
use Rattle.s38_base.specs.declared.words.Seek.TheVariants.{First, Last, Next, Prev, At}
use Rattle.s38_dataspaces.specs.Entries.{DataEntry, entry_at}

-- whether the entry of an ordinal is present, by the flags of all ordinals from 1 on
abbrev pub is_present_at : List Bool → ℕ → Bool
is_present_at flags zero = false
is_present_at flags (suc k) = unwrap_or (slice_get flags k) false

-- the least ordinal above `from` whose entry is present
abbrev pub next_above : List Bool → ℕ → Option ℕ
next_above flags from = option_map (λ k. from + 1 + k) (position (λ stands. stands) (drop from flags))

-- the greatest ordinal up to `most` whose entry is present
abbrev pub last_up_to : List Bool → ℕ → Option ℕ
last_up_to flags zero = None
last_up_to flags (suc k) = if is_present_at flags (suc k) then Some (suc k) else last_up_to flags k

-- the ordinal of the entry that is sought: the first or the last of all, the next above or the last below `from`, or
-- that of `from` itself
abbrev pub sought : List Bool → Seek → ℕ → Option ℕ
sought flags First from = next_above flags 0
sought flags Last from = last_up_to flags (length flags)
sought flags Next from = next_above flags from
sought flags Prev from = last_up_to flags (min (from - 1) (length flags))
sought flags At from = if is_present_at flags from then Some from else None

-- whether an entry is present under an ordinal
abbrev pub is_present_under : List DataEntry → ℕ → Bool
is_present_under entries at = is_some (entry_at entries at)

-- whether an ordinal is one of those that are sought
abbrev pub ordinal_is_sought : Seek → ℕ → ℕ → Bool
ordinal_is_sought First from at = true
ordinal_is_sought Last from at = true
ordinal_is_sought Next from at = nat_lt from at
ordinal_is_sought Prev from at = nat_lt at from
ordinal_is_sought At from at = at == from

-- the last and the one before are the greatest of those, the others the least
abbrev pub IsNoFurther : Seek → ℕ → ℕ → Type 0
IsNoFurther Last at other = other ≤ at
IsNoFurther Prev at other = other ≤ at
IsNoFurther how at other = at ≤ other

-- the ordinal is that of an entry that is present, and the nearest of those that are sought
pub record IsSought (entries : List DataEntry) (how : Seek) (from at : ℕ) : Type 0 where
  pub stands : IsTrue (is_present_under entries at)
  pub asked : IsTrue (ordinal_is_sought how from at)
  pub nearest : (other : ℕ) → IsTrue (is_present_under entries other) → IsTrue (ordinal_is_sought how from other) → IsNoFurther how at other

-- none of those that are sought is present
pub record IsNowhere (entries : List DataEntry) (how : Seek) (from : ℕ) : Type 0 where
  pub none : (other : ℕ) → IsTrue (is_present_under entries other) → ordinal_is_sought how from other ≡ false
