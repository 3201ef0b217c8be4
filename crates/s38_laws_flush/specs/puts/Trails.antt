-- What is kept of a journal space is the beginning of what the machine has of it, and no more bytes follow it than the
-- machine counts as unforced.
use Rattle.std.specs.Prelude.{◌≡◌, ◌++◌, ◌≤◌, ℕ, List, Some, is_some, true}
use Rattle.s38_laws_commits.specs.Linked.{AreLinked}
use Rattle.s38_durable_state.specs.Durable.{Durable, kept}
use Rattle.s38_image.specs.declared.stored.Stored.{Stored}
use Rattle.s38_journals.specs.Entries.{JournalRecord}
use Rattle.s38_journals.specs.Journals.{JournalList, entries_len}
use Rattle.s38_rules.specs.state.Held.{Held}
use Rattle.s38_rules.specs.state.Parts.{journal_of}
use Rattle.s38_rules.specs.state.PartsAt.{journal_at}
use Rattle.s38_rules.specs.state.State.{State}
use Rattle.s38_laws_flush.specs.puts.Fresh.{AreFresh}
use Rattle.s38_laws_flush.specs.puts.Unforced.{AreLow}

-- the entries of a journal are first those that are kept, and the bytes of the others are at most those that are unforced
pub record IsTrailing (front : List JournalRecord) (j : JournalList) : Type 0 where
  pub rest : List JournalRecord
  pub entries : j.entries ≡ front ++ rest
  pub bytes : entries_len rest ≤ j.unforced

-- so it is of each journal space that is kept
abbrev pub AreTrailing : Held → Durable → Type 0
AreTrailing h d = (n : ℕ) (x : Stored) (i : JournalList) → kept d.objects n ≡ Some x → journal_of x.object.body ≡ Some i → IsTrailing i.entries (journal_at h n)

-- a state of a run over a store: what is kept of each journal space is the beginning of it, and few bytes are unforced; one that
-- is not on disk has no entry; and the journal space of each data space that is journaled is on disk
pub record IsTrailOf (s : State) (d : Durable) : Type 0 where
  pub stored : is_some s.room ≡ true
  pub trailing : AreTrailing s.held d
  pub low : AreLow s.held s.units
  pub fresh : AreFresh s.held
  pub linked : AreLinked s.held
