-- What a store has of the data spaces that are journaled, and of their ports and journal spaces.
use Rattle.std.specs.Prelude.{◌≡◌, ◌++◌, ℕ, Bool, false, true, List, Some}
use Rattle.s38_commits.specs.Units.{UnitMap}
use Rattle.s38_durable_state.specs.Durable.{Durable, kept}
use Rattle.s38_image.specs.declared.stored.Stored.{Stored}
use Rattle.s38_journals.specs.Entries.{JournalRecord}
use Rattle.s38_journals.specs.Journals.{JournalList}
use Rattle.s38_rules.specs.state.Held.{Held, is_on_disk}
use Rattle.s38_rules.specs.state.Journaling.{data_port, is_journal, journal_for}
use Rattle.s38_rules.specs.state.Parts.{data_of, journal_of, part_at, port_of, port_part}
use Rattle.s38_rules.specs.state.PartsAt.{table_at}
use Rattle.s38_rules.specs.declared.data_body.DataBody.{DataBody}
use Rattle.s38_rules.specs.declared.port.Port.{Port}
use Rattle.s38_laws_commits.specs.Told.{IsTableImage, entries_at}

-- the port of a number is kept
pub record IsPortKept (d : Durable) (n : ℕ) (p : Port) : Type 0 where
  pub stored : Stored
  pub found : kept d.objects n ≡ Some stored
  pub body : port_of stored.object.body ≡ Some p

-- of the entries of the journal space of a number the first ones are kept
pub record IsFrontKept (d : Durable) (n : ℕ) (es : List JournalRecord) : Type 0 where
  pub stored : Stored
  pub journal : JournalList
  pub rest : List JournalRecord
  pub found : kept d.objects n ≡ Some stored
  pub body : journal_of stored.object.body ≡ Some journal
  pub all : es ≡ journal.entries ++ rest

-- the data space of a number is kept by an image that its journal space leads on
pub record IsImageKept (h : Held) (units : UnitMap) (d : Durable) (n journal : ℕ) : Type 0 where
  pub stored : Stored
  pub held : DataBody
  pub found : kept d.objects n ≡ Some stored
  pub body : data_of stored.object.body ≡ Some held
  pub port : held.port.0 ≡ data_port h n
  pub image : IsTableImage units (entries_at h journal) (table_at h n) n stored.sequence held.space

-- of all that is on disk, apart from what must persist at once
pub record AreImaged (h : Held) (units : UnitMap) (d : Durable) (anew : ℕ → Bool) : Type 0 where
  pub port : (n : ℕ) (p : Port) → anew n ≡ false → part_at port_part h n ≡ Some p → is_on_disk h n ≡ true → IsPortKept d n p
  pub journal : (n : ℕ) → anew n ≡ false → is_journal h n ≡ true → is_on_disk h n ≡ true → IsFrontKept d n (entries_at h n)
  pub space : (n journal : ℕ) → anew n ≡ false → journal_for h n ≡ Some journal → IsImageKept h units d n journal
