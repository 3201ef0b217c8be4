-- How journal spaces go on: an entry is written at the end of one, or it is there no more.
use Rattle.std.specs.Prelude.{◌≡◌, ◌+◌, ◌++◌, ◌<◌, ◌≤◌, ℕ, List, Option, None, Some}
use Rattle.s38_journals.specs.Entries.{JournalRecord}
use Rattle.s38_journals.specs.Journals.{JournalList, entries_len}
use Rattle.s38_rules.specs.state.Held.{Held}
use Rattle.s38_rules.specs.state.Parts.{journal_part, part_at}

-- a journal has the entries of another, and more, and so many more of its bytes are unforced
pub record IsLonger (old new : JournalList) : Type 0 where
  pub rest : List JournalRecord
  pub entries : new.entries ≡ old.entries ++ rest
  pub unforced : new.unforced ≡ old.unforced + entries_len rest

-- a journal space became longer, or is there no more; where none was none is
abbrev pub Lengthens : Option JournalList → Option JournalList → Type 0
Lengthens old None = Unit {0}
Lengthens None (Some new) = ⊥
Lengthens (Some old) (Some new) = IsLonger old new

-- so it is under each number that was given
pub record AreLonger (h k : Held) : Type 0 where
  pub next : h.next ≤ k.next
  pub each : (n : ℕ) → n < h.next → Lengthens (part_at journal_part h n) (part_at journal_part k n)
