-- Which pages some parts of several objects are to have.
use Rattle.std.specs.Prelude.{◌<◌, ℕ, List, [], ◌∷◌, Option, sum_by, if◌then◌else◌}
use Rattle.std.specs.List.{flat_map}
use Rattle.s38_base.specs.declared.page.Change.{Change}
use Rattle.s38_base.specs.declared.page.Key.{Key}
use Rattle.s38_base.specs.declared.page.Page.{Page}
use Rattle.s38_page_diff.specs.Differences.{differences, is_part_in_range, wanted_at}
use Rattle.s38_page_diff.specs.declared.range.PartRange.{PartRange}
use Rattle.s38_vault.specs.Directory.{Keys, new_keys}

-- some parts of an object, and the pages that they are to have
pub record Aim : Type 0 where
  pub range : PartRange
  pub wanted : List Change

-- each is at an object of a greater number than the one before
abbrev pub RiseByObject : List Aim → Type 0
RiseByObject [] = Unit {0}
RiseByObject (aim ∷ []) = Unit {0}
RiseByObject (aim ∷ next ∷ aims) = (aim.range.object < next.range.object) × RiseByObject (next ∷ aims)

-- the page that a key is to have: the wanted one in the range of an aim, and else the one that is there
abbrev pub aimed_at : (Key → Option Page) → List Aim → Key → Option Page
aimed_at pages [] key = pages key
aimed_at pages (aim ∷ aims) key = if is_part_in_range aim.range key then wanted_at aim.wanted key else aimed_at pages aims key

-- the changes of all aims, in their order
abbrev pub all_differences : (Key → Option Page) → List Aim → List Change
all_differences pages aims = flat_map (λ aim. differences pages aim.range aim.wanted) aims

-- how many keys the wanted pages bring that are not there
abbrev pub wanted_new : Keys → List Aim → ℕ
wanted_new keys aims = sum_by (λ aim. new_keys keys aim.wanted) aims
