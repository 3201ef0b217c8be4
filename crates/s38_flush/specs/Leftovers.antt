-- Orphan pages: parts after the header of a number under which nothing is kept.
use Rattle.std.specs.Prelude.{◌≡◌, ◌<◌, ◌==◌, ◌||◌, ℕ, Bool, true, List, [], length, filter, is_some, not, nat_le, if◌then◌else◌}
use Rattle.std.specs.FinMap.{get}
use Rattle.s38_base.specs.declared.page.Change.{Change}
use Rattle.s38_base.specs.declared.page.Key.{Key}
use Rattle.s38_durable_state.specs.Durable.{Durable, kept}
use Rattle.s38_durable_state.specs.Represents.{page_of, parts_end}
use Rattle.s38_image.specs.PartPlaces.{ceiling_key}
use Rattle.s38_vault.specs.Content.{Content}

-- a part that is a header or the ceiling, or of a number under which something is kept
abbrev pub belongs : Durable → Key → Bool
belongs d key = (key.part == 0) || ((key.object == ceiling_key) || is_some (kept d.objects key.object))

-- each part but orphan pages has its page, and no header is there of what is not kept; orphan pages may be left, which a
-- restart takes away
pub record RepresentsUpToOrphans (m : Content) (d : Durable) : Type 0 where
  pub each : (key : Key) → key.part < parts_end → belongs d key ≡ true → get m key ≡ page_of d key

abbrev pub belongs_in : Durable → Change → Bool
belongs_in d c = belongs d c.key

abbrev pub is_left_in : Durable → Change → Bool
is_left_in d c = not (belongs d c.key)

-- what is put first: where one put does not take all, all but orphan pages
abbrev pub first_changes : ℕ → Durable → List Change → List Change
first_changes most d cs = if nat_le (length cs) most then cs else filter (belongs_in d) cs

-- what is put after it
abbrev pub later_changes : ℕ → Durable → List Change → List Change
later_changes most d cs = if nat_le (length cs) most then [] else filter (is_left_in d) cs
