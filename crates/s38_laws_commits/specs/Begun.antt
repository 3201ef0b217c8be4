-- When what is durable is in order, so that a machine may begin with the restart of it.
use Rattle.std.specs.Prelude.{◌≡◌, ◌<◌, ◌≤◌, ℕ, false, Some, length}
use Rattle.s38_durable_state.specs.Durable.{Durable, kept}
use Rattle.s38_image.specs.declared.stored.Stored.{Stored}
use Rattle.s38_journals.specs.Journals.{JournalList}
use Rattle.s38_rules.specs.state.Journaling.{journal_for}
use Rattle.s38_rules.specs.state.Parts.{data_of, journal_of}
use Rattle.s38_rules.specs.declared.data_body.DataBody.{DataBody}
use Rattle.s38_laws_commits.specs.Counting.{has_unit}
use Rattle.s38_laws_commits.specs.Found.{restart_of}
use Rattle.s38_laws_commits.specs.Linked.{AreLinked}
use Rattle.s38_laws_commits.specs.Told.{IsSmall, entries_at}

pub record IsInOrder (d : Durable) : Type 0 where
  -- numbers rise and were given, and what is journaled is on disk
  pub linked : AreLinked (restart_of d)
  -- no journal space has an entry of a unit that begins later
  pub journals : (n u : ℕ) (x : Stored) (j : JournalList) → kept d.objects n ≡ Some x → journal_of x.object.body ≡ Some j → length j.entries < u → has_unit u j.entries ≡ false
  -- the image of each data space is no longer than the limit of a body, and counts in no more entries than there are
  pub small : (n : ℕ) (x : Stored) (held : DataBody) → kept d.objects n ≡ Some x → data_of x.object.body ≡ Some held → IsSmall held.space
  pub within : (n journal : ℕ) (x : Stored) → kept d.objects n ≡ Some x → journal_for (restart_of d) n ≡ Some journal → x.sequence ≤ length (entries_at (restart_of d) journal)
