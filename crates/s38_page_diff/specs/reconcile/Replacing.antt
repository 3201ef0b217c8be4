-- What makes a vault hold these parts, and no others, at each number up to one.
use Rattle.std.specs.Prelude.{ℕ, zero, suc, ◌^◌, ◌-◌, List, [], ◌++◌, Option}
use Rattle.s38_base.specs.declared.page.Change.{Change}
use Rattle.s38_base.specs.declared.page.Key.{Key}
use Rattle.s38_base.specs.declared.page.Page.{Page}
use Rattle.s38_page_diff.specs.Differences.{differences}
use Rattle.s38_page_diff.specs.declared.range.PartRange.{PartRange}

-- ---- parts

-- the last part of a number
abbrev pub last_part : ℕ
last_part = 2 ^ 32 - 1

-- all parts of a number, and all but the last
abbrev pub range_of : ℕ → PartRange
range_of n = record { object = n; first = 0; end = 2 ^ 32 }

abbrev pub short_range : ℕ → PartRange
short_range n = record { object = n; first = 0; end = last_part }

-- ---- numbers

-- what each number from 1 up to one has, in order
unfoldable pub each_to : (ℕ → List Change) → ℕ → List Change
each_to f zero = []
each_to f (suc n) = each_to f n ++ f (suc n)

-- the changes at a number that make its parts the wanted ones
abbrev pub changes_at : (Key → Option Page) → (ℕ → List Change) → ℕ → List Change
changes_at pages wants n = differences pages (range_of n) (wants n)

-- the changes at the numbers up to one that make their parts the wanted ones: of the pages that differ, in the order of
-- their keys
abbrev pub changes_to : (Key → Option Page) → (ℕ → List Change) → ℕ → List Change
changes_to pages wants last = each_to (changes_at pages wants) last
