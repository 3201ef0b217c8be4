-- The parts of an object before its body: its header, and its rows.
use Rattle.std.specs.Prelude.{◌≡◌, ℕ, List, ◌++◌, length, Option}
use Rattle.std.specs.List.{AllByRecursion}
use Rattle.std.specs.Option.{option_map}
use Rattle.s38_base.specs.declared.page.Change.{Change}
use Rattle.s38_base.specs.declared.page.Page.{Page}
use Rattle.s38_page_diff.specs.declared.range.PartRange.{PartRange}
use Rattle.s38_image.specs.Headers.{header, rows}
use Rattle.s38_image.specs.PartPlaces.{body_part, rows_part}
use Rattle.s38_image.specs.Pages.{no_tags, print_parts}
use Rattle.s38_image.specs.declared.header.Header.{Header}
use Rattle.s38_image_writer.specs.Parts.{header_with}
use Rattle.s38_rules.specs.declared.object.Object.{Object}
use Rattle.s38_vault.specs.Content.{AreRising}

-- the parts of a number before the body
abbrev pub front_range : ℕ → PartRange
front_range n = record { object = n; first = 0; end = body_part }

-- those of an object whose body has so many bytes
abbrev pub front_parts : Object → ℕ → List Change
front_parts o len =
    print_parts o.number.0 0 header (no_tags header) (header_with o len) ++ print_parts o.number.0 rows_part (rows (length o.rows)) (no_tags (rows (length o.rows))) o.rows

-- how many bytes the body has by a header's page; none where the page is no header
abbrev pub len_in : Page → Option ℕ
len_in page = option_map (λ (h : Header). h.body) (header.read page.bytes)

-- ---- changes of one number

-- changes of this number are added, in the order of their keys
pub record AddsAt (n : ℕ) (old new : List Change) : Type 0 where
  pub more : List Change
  pub added : new ≡ old ++ more
  pub own : AllByRecursion (λ c. c.key.object ≡ n) more
  pub rising : AreRising more
