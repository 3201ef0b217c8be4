-- A step opens no way, and does not use the right.
use Rattle.std.proofs.Common.{◌≡◌, ◌≢◌, Bool, List, false, refl, true, ℕ}
use Rattle.std.proofs.lemmas.List.Elements.{All-nil}
use Rattle.std.specs.Prelude.{None, Some}
use Rattle.s38_code.specs.declared.entry.Entry.{Entry}
use Rattle.s38_code.specs.declared.event.Event.TheVariants.{Act, Finish, Start}
use Rattle.s38_code.specs.declared.event.Event.{Event}
use Rattle.s38_journals.specs.Journals as journals
use Rattle.s38_rules.specs.state.Held.{Held}
use Rattle.s38_rules.specs.step.Effect.{effect_of, end_at, start_at}
use Rattle.s38_rules.specs.state.PartsAt.{on_journal}
use Rattle.s38_rules.specs.families.Rows.{row}
use Rattle.s38_rules.specs.state.State.{State, process_entry, waits}
use Rattle.s38_rules.specs.step.Step.{Stepped, awake_verdict, by_verdict, by_waiting, step}
use Rattle.s38_rules.specs.store.Storing.{stored}
use Rattle.s38_rules.specs.ask.Users.{acting}
use Rattle.s38_rules.specs.step.Verdict.{refused_by, ruled_verdict}
use Rattle.s38_rules.specs.declared.verdict.Verdict.TheVariants.{Permit}
use Rattle.s38_rules.specs.declared.verdict.Verdict.{Verdict}
use Rattle.s38_rules.proofs.RoomLaws.{permitted_by_rules}
use Rattle.s38_rules.proofs.StoreLaws.{stored_holds}
use Rattle.s38_rules.proofs.VerdictLaws.{permitted_none}
use Rattle.s38_laws_confinement.proofs.EffectLaws.{effect_lessens}
use Rattle.s38_laws_confinement.proofs.PlainWordLaws.{all_decommitted_keeps, journal_keeps}
use Rattle.s38_laws_confinement.proofs.RightLaws.{among, unused}
use Rattle.s38_laws_confinement.proofs.AccessLaws.{IsShut, Lessens, kept_lessens, lessens_same, lessens_then, stays_shut}
use Rattle.s38_laws_confinement.specs.Confined.{ActsWithin, Exercises, UsesBy}
use Rattle.s38_laws_confinement.specs.NoWay.{IsHarmless, NoWay}
use Rattle.s38_laws_confinement.specs.OfPointers.{OfEvent, OfReply, OfVal, OfVals}

-- what opens no way: an event's reply, and the state after it; the right is not used
pub record KeepsOut (users : List ℕ) (o r : ℕ) (s : State) (e : Entry) (t : Stepped) : Type 0 where
  pub shut : IsShut t.state.held users o r
  pub reply : OfReply (IsHarmless o r) t.reply
  pub unused : Exercises s e t.reply o r → ⊥

event_lessens : (s : State) (p : ℕ) (e : Event) (users : List ℕ) (o r : ℕ) → o ≢ 0 → NoWay s.held users o r → OfEvent (IsHarmless o r) e → ActsWithin users s p e → awake_verdict s p e ≡ Permit
    → Lessens s.held (effect_of s p e).state.held o r × OfVals (IsHarmless o r) (effect_of s p e).values × (UsesBy s p e o r → ⊥)
unfolding effect_of ruled_verdict
event_lessens s p Start users o r some closed asked within may =
    (elim (process_entry s p) as (λ x. Lessens s.held (start_at s p x).held o r) [ None ↦ lessens_same s.held o r | Some x ↦ lessens_same s.held o r ], All-nil (OfVal (IsHarmless o r)), λ uses. uses)
event_lessens s p (Act d t) users o r some closed asked within may =
    let none = permitted_none s p t (refused_by (row t.op) s p d t) (permitted_by_rules s p (Act d t) may) in
    let way = among s.held users (acting s p d) o r closed within in
    let done = effect_lessens s p d t o r way asked none in
    (done.0, done.1, unused s p d t o r some way asked none)
event_lessens s p (Finish cause) users o r some closed asked within may = (
  elim (process_entry s p) as (λ x. Lessens s.held (end_at s p x).held o r) [
    | None ↦ lessens_same s.held o r
    | Some x ↦ kept_lessens s.held _ o r (all_decommitted_keeps (IsHarmless o r) s.units s p)
  ],
  All-nil (OfVal (IsHarmless o r)),
  λ uses. uses,
)

-- neither does what a store keeps
stored_lessens : (before : Held) (s : State) (p : ℕ) (e : Event) (t : State) (o r : ℕ) → Lessens before t.held o r → Lessens before (stored s p e t).held o r
stored_lessens before s p e t o r lessens =
    stored_holds (λ (h : Held). Lessens before h o r)
    (λ h n so_far. lessens_then before h (on_journal h n journals.forced) o r so_far (kept_lessens h _ o r (journal_keeps (IsHarmless o r) h n journals.forced)))
    s p e t lessens

verdict_kept : (users : List ℕ) (o r : ℕ) (s : State) (e : Entry) (v : Verdict) → o ≢ 0 → IsShut s.held users o r → OfEvent (IsHarmless o r) e.event → ActsWithin users s e.process e.event
    → awake_verdict s e.process e.event ≡ v → KeepsOut users o r s e (by_verdict s e.process e.event v)
verdict_kept users o r s e Permit some shut asked within is =
    let done = event_lessens s e.process e.event users o r some shut.way asked within is in
    record { shut = stays_shut s.held _ users o r (stored_lessens s.held s e.process e.event (effect_of s e.process e.event).state o r done.0) shut; reply = done.1; unused = done.2 }
verdict_kept users o r s e _ some shut asked within is = record { shut = shut; reply = tt; unused = λ uses. uses }

pub step_kept : (users : List ℕ) (o r : ℕ) (s : State) (e : Entry) → o ≢ 0 → IsShut s.held users o r → OfEvent (IsHarmless o r) e.event → ActsWithin users s e.process e.event
    → KeepsOut users o r s e (step s e.process e.event)
unfolding step
step_kept users o r s e some shut asked within = by (waits s e.process)
  where
    by : (b : Bool) → KeepsOut users o r s e (by_waiting b s e.process e.event)
    by true = record { shut = shut; reply = tt; unused = λ uses. uses }
    by false = verdict_kept users o r s e (awake_verdict s e.process e.event) some shut asked within refl
