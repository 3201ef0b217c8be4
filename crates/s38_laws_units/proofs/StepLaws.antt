-- Step by step the units stay right, from the machine's beginning on.
use Rattle.std.proofs.Common.{◌++◌, ◌∷◌, ◌≡◌, ◌≤◌, Bool, List, [], arith, false, refl, subst, sym, true, ℕ}
use Rattle.std.proofs.lemmas.Bool.{cond_both}
use Rattle.std.proofs.lemmas.List.Elements.{All-nil}
use Rattle.std.specs.List.{AllByRecursion}
use Rattle.std.specs.Prelude.{IsTrue, None, Option, Some}
use Rattle.s38_code.specs.declared.deck.Job.{Job}
use Rattle.s38_code.specs.declared.entry.Entry.{Entry}
use Rattle.s38_code.specs.declared.event.Event.TheVariants.{Act, Finish, Start}
use Rattle.s38_code.specs.Operations.{family_of}
use Rattle.s38_code.specs.declared.event.Event.{Event}
use Rattle.s38_code.specs.declared.event.Request.{Request}
use Rattle.s38_code.specs.declared.made.CheckedTemplate.{CheckedTemplate}
use Rattle.s38_commits.specs.declared.change.UnitChange.{UnitChange}
use Rattle.s38_commits.specs.Unit.{CommitUnit}
use Rattle.s38_commits.specs.Units.{UnitMap, unit_of}
use Rattle.s38_journals.specs.Journals.{can_write}
use Rattle.s38_journals.specs.declared.entry.EntryKind.{EntryKind}
use Rattle.s38_rules.specs.families.Units.{all_undone, end_entry}
use Rattle.s38_rules.proofs.RoomLaws.{permitted_by_rules}
use Rattle.s38_rules.proofs.StoreLaws.{stored_beside, stored_holds}
use Rattle.s38_rules.proofs.VerdictLaws.{permitted_none}
use Rattle.s38_rules.specs.families.Changes.{Changes, Entered, Then}
use Rattle.s38_rules.specs.state.Journaling.{journal_for}
use Rattle.s38_rules.specs.step.Effect.{effect_of, end_at, start_at}
use Rattle.s38_rules.specs.state.Held.{Held, has_number, object, object_in}
use Rattle.s38_rules.specs.step.Legal.{Leads}
use Rattle.s38_rules.specs.state.Opening.{held_first, held_installed, installed, opening, state_of}
use Rattle.s38_rules.specs.state.Parts.{data_of, data_part, part_at, part_in}
use Rattle.s38_rules.specs.families.Rows.{row}
use Rattle.s38_rules.specs.state.State.{State, process_entry, waits}
use Rattle.s38_rules.specs.step.Step.{awake_verdict, by_verdict, by_waiting, step}
use Rattle.s38_rules.specs.store.Storing.{stored}
use Rattle.s38_rules.specs.step.Verdict.{refused_by, ruled_verdict}
use Rattle.s38_rules.specs.declared.object.Object.{Object}
use Rattle.s38_rules.specs.declared.process.ProcessEntry.{ProcessEntry}
use Rattle.s38_rules.specs.declared.verdict.Verdict.TheVariants.{Permit}
use Rattle.s38_rules.specs.declared.verdict.Verdict.{Verdict}
use Rattle.s38_laws_units.proofs.EndLaws.{all_decommitted_right, can_end, forced_right, undone_right, unit_put_back}
use Rattle.s38_laws_units.proofs.EntryLaws.{entered_written}
use Rattle.s38_laws_units.proofs.RowLaws.{May, effect_right, row_may}
use Rattle.s38_laws_units.proofs.UnitLaws.{each_found, rising_none}
use Rattle.s38_laws_units.specs.Right.{AllPutBack, AreRight, Enters, IsData, IsRight, IsUnit, is_change_written, unit_journal}
use Rattle.s38_rules.specs.step.Histories.{Throughout}

-- ---- the beginning

-- without a unit, and where no object is a data space
no_units : (h : Held) → object h 0 ≡ None → 1 ≤ h.next → ((n : ℕ) → IsData (part_at data_part h n)) → AreRight h []
no_units h none next tables = record {
  rising = rising_none;
  apart = λ one other space at first second. cc;
  each = All-nil (IsUnit h);
  room = λ journal. omega arith;
  tables = tables;
  unused = record { none = none; next = next };
}

no_data : (os : List Object) (n : ℕ) → AllByRecursion (λ x. data_of x.body ≡ None) os → IsData (part_in data_part (object_in os n))
no_data [] n none = tt
no_data (x ∷ xs) n none =
    cond_both (has_number n x) (Some x) (object_in xs n) (λ r. IsData (part_in data_part r)) (λ q. subst IsData (sym none.0) tt) (λ q. no_data xs n none.1)

pub first_right : (templates : List CheckedTemplate) (jobs : List Job) → IsRight (state_of held_first templates jobs)
unfolding opening
first_right templates jobs = no_units held_first refl (omega arith) (λ n. no_data opening n (refl, (refl, (refl, (refl, (refl, tt))))))

pub installed_right : (templates : List CheckedTemplate) (jobs : List Job) → IsRight (state_of held_installed templates jobs)
unfolding installed
installed_right templates jobs = no_units held_installed refl (omega arith) (λ n. no_data installed n (refl, (refl, tt)))

-- ---- a step

start_right : (s : State) (p : ℕ) (x : Option ProcessEntry) → IsRight s → IsRight (start_at s p x)
start_right s p None right = right
start_right s p (Some x) right = right

finish_right : (s : State) (p : ℕ) (x : Option ProcessEntry) → IsRight s → IsRight (end_at s p x)
finish_right s p None right = right
finish_right s p (Some x) right = all_decommitted_right s.units s p right right.rising (each_found s.units right.rising)

event_right : (s : State) (p : ℕ) (e : Event) → IsRight s → awake_verdict s p e ≡ Permit → IsRight (effect_of s p e).state
unfolding effect_of ruled_verdict
event_right s p Start right may = start_right s p (process_entry s p) right
event_right s p (Act d t) right may = effect_right s p d t right (permitted_none s p t (refused_by (row t.op) s p d t) (permitted_by_rules s p (Act d t) may))
event_right s p (Finish cause) right may = finish_right s p (process_entry s p) right

-- what a store keeps leaves them right
stored_right : (s : State) (p : ℕ) (e : Event) (t : State) → IsRight t → IsRight (stored s p e t)
stored_right s p e t right =
    subst (λ (units : UnitMap). AreRight (stored s p e t).held units) (sym (stored_beside s p e t).units)
    (stored_holds (λ (h : Held). AreRight h t.units) (λ h n so_far. forced_right h t.units n so_far) s p e t right)

verdict_right : (s : State) (p : ℕ) (e : Event) (v : Verdict) → IsRight s → awake_verdict s p e ≡ v → IsRight (by_verdict s p e v).state
verdict_right s p e Permit right is = stored_right s p e (effect_of s p e).state (event_right s p e right is)
verdict_right s p e _ right is = right

pub step_right : (s : State) (p : ℕ) (e : Event) → IsRight s → IsRight (step s p e).state
unfolding step
step_right s p e right = by (waits s p)
  where
    by : (b : Bool) → IsRight (by_waiting b s p e).state
    by true = right
    by false = verdict_right s p e (awake_verdict s p e) right refl

-- ---- a history

pub history_right : (s : State) (before history : List Entry) (end : State) → IsRight s → Leads s before history end → Throughout IsRight s history × IsRight end
history_right s before [] end right leads = (right, subst IsRight leads right)
history_right s before (e ∷ es) end right leads =
    let rest = history_right (step s e.process e.event).state (before ++ e ∷ []) es end (step_right s e.process e.event right) leads.1 in
    ((right, rest.0), rest.1)

-- ---- how a unit ends

pub end_here : (s : State) (block : ℕ) (unit : CommitUnit) (kind : EntryKind) (p : ℕ) → IsRight s → unit_of s.units block ≡ Some unit → IsTrue (can_write (unit_journal s.held block) (end_entry kind p unit))
end_here s block unit kind p right found = can_end s.held s.units block unit kind p right found

pub end_after : (s : State) (block : ℕ) (unit : CommitUnit) (kind : EntryKind) (p : ℕ) → IsRight s → unit_of s.units block ≡ Some unit
    → IsTrue (can_write (unit_journal (all_undone s.held unit.changes) block) (end_entry kind p unit))
end_after s block unit kind p right found = can_end (all_undone s.held unit.changes) s.units block unit kind p (undone_right unit.changes s.held s.units right).right found

pub all_back : (s : State) (block : ℕ) (unit : CommitUnit) → IsRight s → unit_of s.units block ≡ Some unit → AllPutBack s.held unit.changes
all_back s block unit right found = unit_put_back s.held s.units block unit right found

-- ---- how a change is written

entry_here : (x : Changes) (s : State) (p block journal : ℕ) (change : UnitChange) → IsRight s → May s p x → Enters x block change → journal_for s.held change.space.0 ≡ Some journal
    → IsTrue (is_change_written s p block change journal)
entry_here (Entered b c f) s p block journal change right may enters is =
    subst (λ (n : ℕ). IsTrue (is_change_written s p n change journal)) enters.0
    (subst (λ (d : UnitChange). journal_for s.held d.space.0 ≡ Some journal → IsTrue (is_change_written s p b d journal)) enters.1 (entered_written s p b journal c f right may) is)
entry_here (Then x y) s p block journal change right may enters is = entry_here x s p block journal change right may.0 enters is
entry_here _ s p block journal change right may enters is = absurd enters

pub change_here : (s : State) (p d : ℕ) (t : Request) (block : ℕ) (change : UnitChange) (journal : ℕ) → IsRight s → refused_by (row t.op) s p d t ≡ None → Enters ((row t.op).changes s p d t) block change
    → journal_for s.held change.space.0 ≡ Some journal → IsTrue (is_change_written s p block change journal)
change_here s p d t block change journal right e enters is = entry_here ((row t.op).changes s p d t) s p block journal change right (row_may (family_of t.op) t.op s p d t right e) enters is
