-- A journal space that grew since it was kept: its entries are those that are kept, and more after them.
use Rattle.std.specs.Prelude.{◌≡◌, ◌+◌, ◌*◌, ℕ, List, [], ◌++◌, drop, Some}
use Rattle.s38_base.specs.Limits.{page_bytes}
use Rattle.s38_base.specs.declared.page.Change.{Change}
use Rattle.s38_durable_state.specs.Durable.{Durable, kept}
use Rattle.s38_page_diff.specs.declared.range.PartRange.{PartRange}
use Rattle.s38_image.specs.PartPlaces.{body_part}
use Rattle.s38_image.specs.Pages.{needed, stream_parts}
use Rattle.s38_image.specs.declared.stored.Stored.{Stored}
use Rattle.s38_journals.specs.Entries.{JournalRecord}
use Rattle.s38_journals.specs.Journals.{JournalList, journal_image}
use Rattle.s38_rules.specs.state.Held.{Held, object}
use Rattle.s38_rules.specs.declared.object.Body.TheVariants as bodies
use Rattle.s38_rules.specs.declared.object.Object.{Object}

-- what is kept of a journal space is a beginning of it
pub record IsBeginning (x : Stored) (journal : JournalList) : Type 0 where
  pub old : JournalList
  pub more : List JournalRecord
  pub body : x.object.body ≡ bodies.Journal old
  pub grown : journal.entries ≡ old.entries ++ more

-- so it is of each journal space that is there
abbrev pub AreBeginnings : Held → Durable → Type 0
AreBeginnings h d = (n : ℕ) (o : Object) (x : Stored) (journal : JournalList) → object h n ≡ Some o → kept d.objects n ≡ Some x → o.body ≡ bodies.Journal journal → IsBeginning x journal

-- the parts of a body of so many bytes from a page on
abbrev pub tail_range : ℕ → ℕ → ℕ → PartRange
tail_range n first len = record { object = n; first = body_part + first; end = body_part + needed len }

-- the pages of a journal space from one on
abbrev pub tail_parts : ℕ → ℕ → List JournalRecord → List Change
tail_parts n first entries = stream_parts n (body_part + first) (drop (page_bytes * first) (journal_image 1 entries)) []
