-- The words of change that make and destroy objects, end units and change entries: what is kept goes on with them.
use Rattle.std.proofs.Common.{◌≡◌, ◌∙◌, ℕ, ◌==◌, Bool, true, false, List, [], ◌∷◌, refl, sym, subst}
use Rattle.std.proofs.lemmas.Bool.{cond_both}
use Rattle.std.proofs.lemmas.List.Elements.{All-head, All-tail}
use Rattle.std.specs.Prelude.{All, None, Option, Some, is_some}
use Rattle.s38_commits.specs.Unit.{CommitUnit}
use Rattle.s38_commits.specs.Units.{BlocksRise, UnitMap, ended, unit_of}
use Rattle.s38_commits.specs.declared.change.UnitChange.{UnitChange}
use Rattle.s38_dataspaces.specs.Table.{DataTable}
use Rattle.s38_durable_state.specs.Durable.{Durable}
use Rattle.s38_journals.specs.declared.entry.EntryKind.TheVariants.{Commit, Decommit}
use Rattle.s38_rules.specs.families.Changing.{logged, logged_in}
use Rattle.s38_rules.specs.state.Held.{Held, is_on_disk}
use Rattle.s38_rules.specs.state.Journaling.{journal_for, journal_for_block}
use Rattle.s38_rules.specs.state.PartsAt.{on_journal, on_table}
use Rattle.s38_rules.specs.state.State.{State}
use Rattle.s38_rules.specs.families.Units.{all_decommitted, all_undone, committed, decommitted, end_entry, end_written, journal_with_entry, put_back}
use Rattle.s38_laws_units.specs.Right.{AreRight, IsRight, IsUnit}
use Rattle.s38_laws_units.proofs.EndLaws.{commit_right, decommit_right}
use Rattle.s38_laws_commits.proofs.EndedLaws.{IsEnding, back_kept, back_told, back_written, committed_kept, committed_told, committed_written}
use Rattle.s38_laws_commits.proofs.EnteredLaws.{TellsEntry, entered_disk, entered_keeps, entered_kept, entered_told, free_kept, free_told}
use Rattle.s38_laws_commits.proofs.GoingLaws.{IsGoing}
use Rattle.s38_laws_commits.proofs.LinkLaws.{journal_disk, keeps_table, linked_kept, table_disk}
use Rattle.s38_laws_units.proofs.UnitLaws.{IsFoundIn, all_found, found_ended, tail_of}

-- ---- a unit ends

undone_disk : (h : Held) (cs : List UnitChange) (m : ℕ) → is_on_disk (all_undone h cs) m ≡ is_on_disk h m
unfolding all_undone
undone_disk h [] m = refl
undone_disk h (c ∷ cs) m = table_disk (all_undone h cs) c.space.0 m (put_back c) ∙ undone_disk h cs m

pub ending_of : (s : State) (block : ℕ) (unit : CommitUnit) → IsRight s → unit_of s.units block ≡ Some unit → (journal : ℕ) × IsEnding s.held s.units block journal unit
ending_of s block unit right found = by (journal_for_block s.held block) refl all.journal
  where
    all : IsUnit s.held (block, unit)
    all = all_found (IsUnit s.held) s.units block unit right.each found

    by : (r : Option ℕ) → journal_for_block s.held block ≡ r → is_some r ≡ true → (journal : ℕ) × IsEnding s.held s.units block journal unit
    by None is some = absurd (let e : false ≡ true = some in cc)
    by (Some journal) is some = (journal, record { right = right; found = found; leads = is })

pub commit_going : (s : State) (p block : ℕ) (unit : Option CommitUnit) (d : Durable) (anew : ℕ → Bool) → unit_of s.units block ≡ unit → IsGoing s.held s.units d anew
    → IsGoing (committed s p block unit).held (committed s p block unit).units d anew
commit_going s p block None d anew found going = going
commit_going s p block (Some unit) d anew found going =
    let it = ending_of s block unit going.right found in
    let k = on_journal s.held it.0 (journal_with_entry (end_entry Commit p unit)) in
    subst (λ (r : Option ℕ). Goes r) (sym it.1.leads) (record {
      right = subst (λ (r : Option ℕ). AreRight (end_written s.held r (end_entry Commit p unit)) (ended s.units block)) it.1.leads (commit_right s p block (Some unit) going.right found);
      linked = linked_kept s.held k (committed_written s.held s.units block it.0 unit it.1 p).keeps going.linked;
      told = committed_told s.held s.units block it.0 unit it.1 p going.told;
      kept = committed_kept s.held s.units block it.0 unit it.1 p d anew (λ m old on. sym (journal_disk s.held it.0 m (journal_with_entry (end_entry Commit p unit))) ∙ on) going.told going.kept;
    })
  where
    Goes : Option ℕ → Type 0
    Goes r = IsGoing (end_written s.held r (end_entry Commit p unit)) (ended s.units block) d anew

pub decommit_going : (s : State) (p block : ℕ) (unit : Option CommitUnit) (d : Durable) (anew : ℕ → Bool) → unit_of s.units block ≡ unit → IsGoing s.held s.units d anew
    → IsGoing (decommitted s p block unit).held (decommitted s p block unit).units d anew
decommit_going s p block None d anew found going = going
decommit_going s p block (Some unit) d anew found going =
    let it = ending_of s block unit going.right found in
    let k = on_journal (all_undone s.held unit.changes) it.0 (journal_with_entry (end_entry Decommit p unit)) in
    subst (λ (r : Option ℕ). Goes r) (sym it.1.leads) (record {
      right = subst (λ (r : Option ℕ). AreRight (end_written (all_undone s.held unit.changes) r (end_entry Decommit p unit)) (ended s.units block)) it.1.leads (decommit_right s p block (Some unit) going.right found);
      linked = linked_kept s.held k (back_written s.held s.units block it.0 unit it.1 p).keeps going.linked;
      told = back_told s.held s.units block it.0 unit it.1 p going.told;
      kept = back_kept s.held s.units block it.0 unit it.1 p d anew (λ m old on. sym (journal_disk (all_undone s.held unit.changes) it.0 m (journal_with_entry (end_entry Decommit p unit)) ∙ undone_disk s.held unit.changes m) ∙ on) going.kept;
    })
  where
    Goes : Option ℕ → Type 0
    Goes r = IsGoing (end_written (all_undone s.held unit.changes) r (end_entry Decommit p unit)) (ended s.units block) d anew

-- the units of a process, one after another
pub all_going : (units : UnitMap) (s : State) (p : ℕ) (d : Durable) (anew : ℕ → Bool) → BlocksRise units → All (IsFoundIn s.units) units → IsGoing s.held s.units d anew
    → IsGoing (all_decommitted s p units).held (all_decommitted s p units).units d anew
unfolding all_decommitted
all_going [] s p d anew rising stand going = going
all_going (e ∷ es) s p d anew rising stand going =
    let taken = decommitted s p e.0 (Some e.1) in
    let done = decommit_going s p e.0 (Some e.1) d anew (All-head (IsFoundIn s.units) e es stand) going in
    let rest = All-tail (IsFoundIn s.units) e es stand in
    cond_both (e.1.process == p) taken s (λ (t : State). IsGoing (all_decommitted t p es).held (all_decommitted t p es).units d anew)
    (λ own. all_going es taken p d anew (tail_of e es rising) (found_ended s.units es e going.right.rising rising rest) done)
    (λ other. all_going es s p d anew (tail_of e es rising) rest going)

-- ---- an entry is another one

pub entered_going : (s : State) (p block : ℕ) (change : UnitChange) (t : DataTable → DataTable) (d : Durable) (anew : ℕ → Bool) → TellsEntry s block change t
    → AreRight (on_table (logged s p block change).held change.space.0 t) (logged s p block change).units → IsGoing s.held s.units d anew
    → IsGoing (on_table (logged s p block change).held change.space.0 t) (logged s p block change).units d anew
unfolding logged
entered_going s p block change t d anew tells right going = by (journal_for s.held change.space.0) refl right
  where
    by : (r : Option ℕ) → journal_for s.held change.space.0 ≡ r → AreRight (on_table (logged_in s p block change r).held change.space.0 t) (logged_in s p block change r).units
        → IsGoing (on_table (logged_in s p block change r).held change.space.0 t) (logged_in s p block change r).units d anew
    by None is right = record {
      right = right;
      linked = linked_kept s.held (on_table s.held change.space.0 t) (keeps_table s.held change.space.0 t) going.linked;
      told = free_told s block change t going.right tells is going.told;
      kept = free_kept s block change t going.right tells is d anew (λ m old on. sym (table_disk s.held change.space.0 m t) ∙ on) going.kept;
    }
    by (Some journal) is right = record {
      right = right;
      linked = linked_kept s.held _ (entered_keeps s p block journal change t going.right going.told tells is) going.linked;
      told = entered_told s p block journal change t going.right going.told tells is;
      kept = entered_kept s p block journal change t going.right going.told tells is d anew
          (λ m old on. sym (entered_disk s p block journal change t going.right going.told tells is m) ∙ on) going.kept;
    }
