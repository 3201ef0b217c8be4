-- Journal spaces that are not on disk: nothing is journaled there.
use Rattle.std.specs.Prelude.{◌≡◌, ℕ, [], Some, false}
use Rattle.s38_journals.specs.Journals.{JournalList}
use Rattle.s38_rules.specs.state.Held.{Held, is_on_disk}
use Rattle.s38_rules.specs.state.Parts.{journal_part, part_at}

-- a journal space that is not on disk has no entry
abbrev pub AreFresh : Held → Type 0
AreFresh h = (n : ℕ) (j : JournalList) → part_at journal_part h n ≡ Some j → is_on_disk h n ≡ false → j.entries ≡ []
