-- Which pages some parts of an object are to have, and the changes that put them there.
use Rattle.std.specs.Prelude.{◌≡◌, ◌≢◌, ◌+◌, ◌-◌, ◌==◌, ◌&&◌, ℕ, zero, suc, Bool, true, List, [], ◌∷◌, ◌++◌, Option, None, is_some, nat_eq, nat_le, nat_lt, if◌then◌else◌}
use Rattle.std.specs.FinMap.{contains_key}
use Rattle.std.specs.Cmp.Lexicographic.{pointwise}
use Rattle.std.specs.List.{AllByRecursion}
use Rattle.std.specs.Option.{option_eq}
use Rattle.std.specs.Ordering.{eq_by_cmp}
use Rattle.s38_base.specs.declared.page.Change.{Change}
use Rattle.s38_base.specs.declared.page.Key.{Key}
use Rattle.s38_base.specs.declared.page.Page.{Page}
use Rattle.s38_page_diff.specs.declared.range.PartRange.{PartRange}
use Rattle.s38_vault.specs.Content.{AreRising}
use Rattle.s38_vault.specs.Directory.{Keys}
use Rattle.s38_vault.specs.Keys.{key_cmp}

-- ---- what is wanted

abbrev pub is_part_in_range : PartRange → Key → Bool
is_part_in_range range key = (key.object == range.object) && (nat_le range.first key.part && nat_lt key.part range.end)

-- pages of a range are listed by rising keys
pub record IsWanted (range : PartRange) (wanted : List Change) : Type 0 where
  pub rising : AreRising wanted
  pub in_range : AllByRecursion (λ want. is_part_in_range range want.key ≡ true) wanted

-- the page that a list has for a key
abbrev pub wanted_at : List Change → Key → Option Page
wanted_at [] key = None
wanted_at (want ∷ wanted) key = if eq_by_cmp key_cmp key want.key then want.page else wanted_at wanted key

-- ---- what differs

abbrev pub same_page : Option Page → Option Page → Bool
same_page = option_eq (λ a b. pointwise nat_eq a.bytes b.bytes && (a.tags == b.tags))

-- the change of a key from one page to another: none where both are the same
abbrev pub change_between : Key → Option Page → Option Page → List Change
change_between key page want = if same_page page want then [] else record { key = key; page = want } ∷ []

-- the change of a part from the page that is there to the wanted one
abbrev pub difference_at : (Key → Option Page) → List Change → Key → List Change
difference_at pages wanted key = change_between key (pages key) (wanted_at wanted key)

-- the changes of so many parts of an object, from one on
unfoldable pub differences_from : (Key → Option Page) → List Change → ℕ → ℕ → ℕ → List Change
differences_from pages wanted object part zero = []
differences_from pages wanted object part (suc count) =
    difference_at pages wanted (record { object = object; part = part }) ++ differences_from pages wanted object (part + 1) count

-- the changes of each part of a range, in order
abbrev pub differences : (Key → Option Page) → PartRange → List Change → List Change
differences pages range wanted = differences_from pages wanted range.object range.first (range.end - range.first)

-- these keys have pages, and no others
abbrev pub HavePages : Keys → (Key → Option Page) → Type 0
HavePages keys pages = (key : Key) → is_some (pages key) ≡ contains_key keys key

-- a change of a key of the range, to the wanted page from another one
pub record IsDifference (pages : Key → Option Page) (range : PartRange) (wanted : List Change) (change : Change) : Type 0 where
  pub in_range : is_part_in_range range change.key ≡ true
  pub wanted_there : change.page ≡ wanted_at wanted change.key
  pub other : change.page ≢ pages change.key
