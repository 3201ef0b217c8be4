-- Journals and entries of data spaces change nothing that is kept of users.
use Rattle.std.proofs.Common.{◌≡◌, ℕ, List, [], ◌∷◌, refl, sym, subst}
use Rattle.std.specs.Prelude.{Option, Some, None, Result, Ok, Err, OnOk, OnErr}
use Rattle.s38_base.specs.declared.fault.NoMemory.{NoMemory}
use Rattle.s38_commits.specs.declared.change.UnitChange.{UnitChange}
use Rattle.s38_journals.specs.Entries.{JournalRecord}
use Rattle.s38_journals.specs.Journals.{JournalList}
use Rattle.s38_profiles.specs.ProfileMaps.{ProfileMaps}
use Rattle.s38_changes.proofs.KeptLaws.{IsUnkept, part_unkept}
use Rattle.s38_rules.specs.declared.data_body.DataBody.{DataBody}
use Rattle.s38_rules.specs.state.Held.{Held}
use Rattle.s38_rules.specs.state.Kept.{Mirrors}
use Rattle.s38_rules.specs.state.Parts.{data_part, journal_part}
use Rattle.s38_rules.specs.state.PartsAt.{on_data, on_journal, over_table}
use Rattle.s38_rules.specs.state.LawfulParts.{data_lawful, journal_lawful}
use Rattle.s38_rules.specs.families.Units.{all_undone, end_written, journal_with_entry, put_back}

data_free : IsUnkept DataBody data_part
data_free = record { pages = λ x. refl; profile = λ x charge. refl }

journal_free : IsUnkept JournalList journal_part
journal_free = record { pages = λ x. refl; profile = λ x charge. refl }

-- a data space holds something else
pub data_kept : (maps : ProfileMaps) (h : Held) (n : ℕ) (f : DataBody → DataBody) → Mirrors maps h → Mirrors maps (on_data h n f)
data_kept maps h n f m = part_unkept data_part data_lawful data_free maps h n f m

-- the entries of a journal space are others
pub journal_kept : (maps : ProfileMaps) (h : Held) (n : ℕ) (f : JournalList → JournalList) → Mirrors maps h → Mirrors maps (on_journal h n f)
journal_kept maps h n f m = part_unkept journal_part journal_lawful journal_free maps h n f m

-- a journal that changes, or stays where memory is refused
pub journal_left : (maps : ProfileMaps) (h new : Held) (n : ℕ) (f : JournalList → JournalList) (r : Result (Unit {0}) NoMemory) → OnOk r (new ≡ on_journal h n f) → OnErr r (new ≡ h) → Mirrors maps h → Mirrors maps new
journal_left maps h new n f (Ok x) ok err m = subst (λ (k : Held). Mirrors maps k) (sym ok) (journal_kept maps h n f m)
journal_left maps h new n f (Err e) ok err m = subst (λ (k : Held). Mirrors maps k) (sym err) m

-- the end of a unit is written
pub end_kept : (maps : ProfileMaps) (h : Held) (journal : Option ℕ) (entry : JournalRecord) → Mirrors maps h → Mirrors maps (end_written h journal entry)
end_kept maps h None entry m = m
end_kept maps h (Some journal) entry m = journal_kept maps h journal (journal_with_entry entry) m

-- changes are taken back
pub undone_kept : (maps : ProfileMaps) (h : Held) (changes : List UnitChange) → Mirrors maps h → Mirrors maps (all_undone h changes)
unfolding all_undone
undone_kept maps h [] m = m
undone_kept maps h (change ∷ newer) m =
    data_kept maps (all_undone h newer) change.space.0 (over_table (put_back change)) (undone_kept maps h newer m)
