-- When the pages of a vault represent what is durable, and what is put where something else is durable.
use Rattle.std.specs.Prelude.{◌≡◌, ℕ, ◌<◌, ◌^◌, ◌==◌, Bool, List, [], Option, Some, None, map, if◌then◌else◌}
use Rattle.std.specs.FinMap.{get}
use Rattle.std.specs.List.{list_any}
use Rattle.s38_base.specs.declared.page.Change.{Change}
use Rattle.s38_base.specs.declared.page.Key.{Key}
use Rattle.s38_base.specs.declared.page.Page.{Page}
use Rattle.s38_page_diff.specs.Aims.{Aim, all_differences}
use Rattle.s38_page_diff.specs.Differences.{wanted_at}
use Rattle.s38_image.specs.declared.stored.Stored.{Stored}
use Rattle.s38_image.specs.Faults.{ceiling_page}
use Rattle.s38_image.specs.PartPlaces.{ceiling_key}
use Rattle.s38_image.specs.Images.{image_parts}
use Rattle.s38_image.specs.Pages.{no_tags, print_parts}
use Rattle.s38_vault.specs.Content.{Content, changed}
use Rattle.s38_durable_state.specs.Durable.{Durable, kept}

abbrev pub parts_in : Option Stored → List Change
parts_in None = []
parts_in (Some x) = image_parts x

-- the part of the ceiling
abbrev pub ceiling_parts : ℕ → List Change
ceiling_parts ceiling = print_parts ceiling_key 0 ceiling_page (no_tags ceiling_page) ceiling

-- the parts under a number
abbrev pub parts_at : Durable → ℕ → List Change
parts_at d n = if n == ceiling_key then ceiling_parts d.ceiling else parts_in (kept d.objects n)

-- the page of a key
abbrev pub page_of : Durable → Key → Option Page
page_of d key = wanted_at (parts_at d key.object) key

-- a part is a number of 32 bits
abbrev pub parts_end : ℕ
parts_end = 2 ^ 32

-- each part has its page, and no further part has one
pub record Represents (m : Content) (d : Durable) : Type 0 where
  pub each : (key : Key) → key.part < parts_end → get m key ≡ page_of d key

-- ---- what is put

-- all parts of a number are to be those that are durable
abbrev pub aim_of : Durable → ℕ → Aim
aim_of d n = record { range = record { object = n; first = 0; end = parts_end }; wanted = parts_at d n }

abbrev pub aims_of : Durable → List ℕ → List Aim
aims_of d ns = map (aim_of d) ns

abbrev pub is_among : ℕ → List ℕ → Bool
is_among n ns = list_any (λ m. n == m) ns

-- at these numbers the pages are put that differ, and no others
abbrev pub pages_put_at : List ℕ → Content → Durable → Content
pages_put_at ns m d = changed m (all_differences (get m) (aims_of d ns))
