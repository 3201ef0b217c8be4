-- All parts that a store has, in the order of their keys.
use Rattle.std.specs.Prelude.{◌≡◌, ℕ, zero, suc, true, List, length, map, Option, Some, None, is_some, slice_get}
use Rattle.std.specs.FinMap.{entries}
use Rattle.s38_base.specs.Limits.{page_bytes}
use Rattle.s38_base.specs.declared.page.Change.{Change}
use Rattle.s38_base.specs.declared.page.Key.{Key}
use Rattle.s38_base.specs.declared.page.Page.{Page}
use Rattle.s38_codec.specs.Codec.{AreBytes}
use Rattle.s38_image.specs.Fitting.{AreFine}
use Rattle.s38_image.specs.Pages.{bytes_of_page}
use Rattle.s38_vault.specs.Content.{AreRising, Content, HaveObjects}

abbrev pub part_of : Key × Page → Change
part_of e = record { key = e.0; page = Some e.1 }

-- each key that is there, with its page
abbrev pub all_parts : Content → List Change
all_parts m = map part_of (entries m)

-- the key before a place: none before the first
abbrev pub key_before : List Key → ℕ → Option Key
key_before keys zero = None
key_before keys (suc i) = slice_get keys i

-- a page that is put has 512 bytes
pub record HasWholePage (c : Change) : Type 0 where
  pub whole : is_some c.page ≡ true → length (bytes_of_page c.page) ≡ page_bytes
  pub bytes : AreBytes (bytes_of_page c.page)

-- parts as a store may have them: of rising keys, none of object 0, and each page has 512 bytes
pub record AreParts (parts : List Change) : Type 0 where
  pub rising : AreRising parts
  pub objects : HaveObjects parts
  pub fine : AreFine parts
