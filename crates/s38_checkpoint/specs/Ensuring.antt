-- Objects are ensured one after another, in the order of their numbers: what a vault holds after the first so many of them,
-- and what one more of them needs.
use Rattle.std.specs.Prelude.{◌≡◌, ◌≤◌, ◌<◌, ◌&&◌, ◌||◌, ◌⊎◌, ◌+◌, ℕ, Bool, List, [], ◌∷◌, ◌++◌, length, nat_le, nat_lt, Option, Some, None, if◌then◌else◌}
use Rattle.std.specs.FinMap.{get, len}
use Rattle.std.specs.List.{list_any}
use Rattle.s38_base.specs.declared.page.Change.{Change}
use Rattle.s38_base.specs.declared.page.Key.{Key}
use Rattle.s38_base.specs.declared.page.Page.{Page}
use Rattle.s38_checkpoint.specs.Closing.{closing_changes, content_of}
use Rattle.s38_checkpoint.specs.Passing.{last_object_number}
use Rattle.s38_durable_state.specs.Durable.{Durable}
use Rattle.s38_durable_state.specs.Represents.{ceiling_parts, page_of, parts_at, parts_end}
use Rattle.s38_page_diff.specs.Differences.{differences}
use Rattle.s38_page_diff.specs.Puts.{IsAfterPuts}
use Rattle.s38_page_diff.specs.reconcile.Replacing.{changes_to, range_of}
use Rattle.s38_page_diff.specs.reconcile.Walking.{IsKeyInRange}
use Rattle.s38_rules.specs.state.Held.{Held, is_on_disk}
use Rattle.s38_rules.specs.state.Journaling.{is_that_number, journal_for}
use Rattle.s38_rules.specs.declared.object.Object.{Object}
use Rattle.s38_vault.specs.Content.{Content}
use Rattle.s38_vault.specs.Directory.{keys_of, new_keys}

-- ---- what is ensured

-- the journal space of a data space, where it is on disk and its number is greater: it is kept with the data space, and one of
-- a lesser number was kept before
abbrev pub journal_above : Held → ℕ → Option ℕ → Option ℕ
journal_above h n None = None
journal_above h n (Some journal) = if nat_lt n journal && is_on_disk h journal then Some journal else None

abbrev pub journal_ahead : Held → ℕ → Option ℕ
journal_ahead h n = journal_above h n (journal_for h n)

-- a number is ensured with these objects: it is not above that of the last one, or it is that of a journal space that is kept
-- with one
abbrev pub is_ensured : Held → List Object → ℕ → Bool
is_ensured h os n = nat_le n (last_object_number os) || list_any (λ o. is_that_number n (journal_ahead h o.number.0)) os

-- the page of a key after them: where its number is ensured that which is to be kept, and else that which was held
abbrev pub page_after : Content → Durable → Held → List Object → Key → Option Page
page_after m d h os key = if is_ensured h os key.object then page_of d key else get m key

-- a content is that after them; at a key that is none of a part all stays
pub record IsAfter (m : Content) (d : Durable) (h : Held) (os : List Object) (n : Content) : Type 0 where
  pub each : (key : Key) → 1 ≤ key.object → key.part < parts_end → get n key ≡ page_after m d h os key
  pub others : (key : Key) → (IsKeyInRange key → ⊥) → get n key ≡ get m key

-- ---- what one more needs

abbrev pub parts_of_number : Durable → Option ℕ → List Change
parts_of_number d None = []
parts_of_number d (Some n) = parts_at d n

abbrev pub changes_of_number : (Key → Option Page) → Durable → Option ℕ → List Change
changes_of_number pages d None = []
changes_of_number pages d (Some n) = differences pages (range_of n) (parts_at d n)

-- the parts that are to be kept of the next one of these, with its journal space; after the last one that of the ceiling
abbrev pub next_parts : Held → Durable → List Object → List Change
next_parts h d [] = ceiling_parts d.ceiling
next_parts h d (o ∷ os) = parts_at d o.number.0 ++ parts_of_number d (journal_ahead h o.number.0)

-- how many of them are new where this content is held
abbrev pub new_parts_of_objects : Held → Durable → Content → List Object → ℕ
new_parts_of_objects h d n rest = new_keys (keys_of n) (next_parts h d rest)

-- the changes that it brings
abbrev pub next_changes : Held → Durable → (Key → Option Page) → List Object → List Change
next_changes h d pages [] = closing_changes pages d
next_changes h d pages (o ∷ os) = changes_to pages (parts_at d) o.number.0 ++ changes_of_number pages d (journal_ahead h o.number.0)

-- ---- what fits

-- of so many parts enough are free, after the objects that are gone, for the new ones of the next of the rest
abbrev pub Fits : ℕ → Content → Durable → Held → List Object → List Object → Type 0
Fits parts m d h gone rest = (n : Content) → IsAfter m d h gone n → len n + new_parts_of_objects h d n rest ≤ parts

-- each of the first so many objects fits in its turn
abbrev pub FirstFit : ℕ → Content → Durable → Held → ℕ → Type 0
FirstFit parts m d h count = (gone rest : List Object) → h.objects ≡ gone ++ rest → length gone < count → Fits parts m d h gone rest

-- each object fits in its turn, and after the last one the ceiling
abbrev pub EachFits : ℕ → Content → Durable → Held → Type 0
EachFits parts m d h = (gone rest : List Object) → h.objects ≡ gone ++ rest → Fits parts m d h gone rest

-- ---- what is left

-- the content after the first so many objects
pub record IsReached (m : Content) (d : Durable) (h : Held) (n : Content) : Type 0 where
  pub gone : List Object
  pub rest : List Object
  pub all : h.objects ≡ gone ++ rest
  pub behind : IsAfter m d h gone n

-- the next one brings more changes than a put takes, and some of its puts were made
pub record IsAmidObject (most : ℕ) (m : Content) (d : Durable) (h : Held) (n : Content) : Type 0 where
  pub gone : List Object
  pub rest : List Object
  pub all : h.objects ≡ gone ++ rest
  pub before : Content
  pub behind : IsAfter m d h gone before
  pub many : most < length (next_changes h d (get before) rest)
  pub puts : IsAfterPuts most before (next_changes h d (get before) rest) n

-- a crash leaves what is kept of the first so many objects, or of all; or the next one needs several puts
abbrev pub IsLeft : ℕ → Content → Durable → Held → Content → Type 0
IsLeft most m d h n = IsReached m d h n ⊎ ((n ≡ content_of d) ⊎ IsAmidObject most m d h n)

-- a store of so many parts is full where what is held is kept of the first so many objects, each of which fitted in its turn, and
-- the next one needs more new parts than are free
pub record IsFullAt (parts : ℕ) (m : Content) (d : Durable) (h : Held) (n : Content) (needed free : ℕ) : Type 0 where
  pub gone : List Object
  pub rest : List Object
  pub all : h.objects ≡ gone ++ rest
  pub fit : FirstFit parts m d h (length gone)
  pub behind : IsAfter m d h gone n
  pub wanted : needed ≡ new_parts_of_objects h d n rest
  pub there : free + len n ≡ parts
  pub short : free < needed
