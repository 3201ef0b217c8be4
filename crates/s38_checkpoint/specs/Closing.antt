-- What a run leaves: each object whole, the ceiling, and nothing else.
use Rattle.std.specs.Prelude.{List, ◌++◌, Option, map}
use Rattle.std.specs.FinMap.{empty}
use Rattle.std.specs.List.{flat_map}
use Rattle.s38_base.specs.declared.page.Change.{Change}
use Rattle.s38_base.specs.declared.page.Key.{Key}
use Rattle.s38_base.specs.declared.page.Page.{Page}
use Rattle.s38_commits.specs.Units.{UnitMap}
use Rattle.s38_durable_state.specs.Durable.{Durable, whole_stored}
use Rattle.s38_durable_state.specs.Represents.{ceiling_parts, parts_at}
use Rattle.s38_image.specs.declared.stored.Stored.{Stored}
use Rattle.s38_image.specs.PartPlaces.{ceiling_key}
use Rattle.s38_image.specs.Images.{image_parts}
use Rattle.s38_page_diff.specs.reconcile.Replacing.{changes_to}
use Rattle.s38_rules.specs.state.Held.{Held}
use Rattle.s38_vault.specs.Content.{Content, changed}

-- ---- what is to be kept

-- all objects in rising order of number, each as it is, whether it was on disk before or not
abbrev pub kept_whole : UnitMap → Held → List Stored
kept_whole units h = map (whole_stored units h) h.objects

-- what is durable after a checkpoint
abbrev pub closing : UnitMap → Held → Durable
closing units h = record { ceiling = h.ceiling; objects = kept_whole units h }

-- all parts of what is durable: those of its objects, and then that of the ceiling
abbrev pub parts_of_all : Durable → List Change
parts_of_all d = flat_map image_parts d.objects ++ ceiling_parts d.ceiling

-- a store that has these parts, and no others
abbrev pub content_of : Durable → Content
content_of d = changed empty (parts_of_all d)

-- ---- what is put

-- the changes that make a store hold what is durable, and nothing else: of the pages that differ, in the order of their
-- keys
abbrev pub closing_changes : (Key → Option Page) → Durable → List Change
closing_changes pages d = changes_to pages (parts_at d) ceiling_key
