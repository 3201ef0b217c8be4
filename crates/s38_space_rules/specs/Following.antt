-- When the room of a store fits the objects, and how it follows a step: the extent of each object of which something must
-- persist.
use Rattle.std.specs.Prelude.{◌≡◌, ℕ, false, List, [], ◌∷◌, Option, Some, None, if◌then◌else◌}
use Rattle.std.specs.Option.{option_map}
use Rattle.s38_laws_objects.specs.Outline.{is_forced}
use Rattle.s38_rules.specs.declared.object.Object.{Object}
use Rattle.s38_rules.specs.store.Forcing.{Ceiling, Forced, Header, Removed, Whole, extent_after}
use Rattle.s38_rules.specs.state.Held.{Held, object, object_in}
use Rattle.s38_rules.specs.store.Room.{Extent, extent_at, rows_pages}
use Rattle.s38_space_map.specs.Extents.{with_extent, without}

-- ---- what fits

-- how many pages of rows a store has of an object; of one that is not on disk it has nothing
abbrev pub rows_kept : Option Object → Option ℕ
rows_kept None = None
rows_kept (Some o) = if o.on_disk then Some (rows_pages o) else None

abbrev pub rows_in : Extent → ℕ
rows_in x = x.rows

-- of each object on disk the store has the pages that its rows take, and of nothing else it has anything
pub record Fits (xs : List Extent) (h : Held) : Type 0 where
  pub rows : (n : ℕ) → option_map rows_in (extent_at xs n) ≡ rows_kept (object h n)

-- the same of each number of which nothing must persist
pub record FitsBut (all : List Forced) (xs : List Extent) (h : Held) : Type 0 where
  pub rows : (n : ℕ) → is_forced n all ≡ false → option_map rows_in (extent_at xs n) ≡ rows_kept (object h n)

-- ---- how the room follows

-- the extent of an object after a step; of one that is not on disk there is none
abbrev pub kept_extent : List Forced → Option Extent → Option Object → Option Extent
kept_extent all old None = None
kept_extent all old (Some o) = if o.on_disk then Some (extent_after all old o) else None

-- the extents, with this one of a number, or without one
abbrev pub with_kept : ℕ → Option Extent → List Extent → List Extent
with_kept n None xs = without n xs
with_kept n (Some x) xs = with_extent x xs

-- the extents, with that of a number as it is after the step
abbrev pub with_anew : List Forced → List Object → ℕ → List Extent → List Extent
with_anew all os n xs = with_kept n (kept_extent all (extent_at xs n) (object_in os n)) xs

-- the extents, with what must persist
abbrev pub followed_one : List Forced → List Object → Forced → List Extent → List Extent
followed_one all os Ceiling xs = xs
followed_one all os (Header n) xs = with_anew all os n xs
followed_one all os (Whole n) xs = with_anew all os n xs
followed_one all os (Removed n) xs = with_anew all os n xs

abbrev pub followed_by : List Forced → List Object → List Forced → List Extent → List Extent
followed_by all os [] xs = xs
followed_by all os (one ∷ more) xs = followed_by all os more (followed_one all os one xs)
