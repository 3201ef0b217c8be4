-- What is kept of a journal space.
use Rattle.std.specs.Prelude.{◌≡◌, ℕ, List}
use Rattle.s38_base.specs.declared.id.Kind.TheVariants as kinds
use Rattle.s38_image.specs.declared.stored.Stored.{Stored}
use Rattle.s38_journals.specs.Entries.{JournalRecord}
use Rattle.s38_journals.specs.Journals.{JournalList}
use Rattle.s38_rules.specs.declared.object.Body.TheVariants as bodies
use Rattle.s38_flush.specs.Stepping.{HasHeader}

-- under a number a journal space is kept that has these entries, with a header that can be read again
pub record IsSpace (n : ℕ) (x : Stored) (es : List JournalRecord) : Type 0 where
  pub number : x.object.number.0 ≡ n
  pub has : HasHeader x
  pub kind : x.object.id.kind ≡ kinds.Journal
  pub journal : JournalList
  pub body : x.object.body ≡ bodies.Journal journal
  pub entries : journal.entries ≡ es
