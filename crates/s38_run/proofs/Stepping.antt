-- What a step does for a process that is ready: it is entered, and it moves no other process.
use Rattle.std.proofs.Common.{◌≡◌, ◌≢◌, ℕ, ◌-◌, ◌<◌, Bool, true, false, List, [], length, ap, refl, sym, ◌∙◌, subst, inl, inr, not, ◌&&◌, arith, length-set, get_or-set_other, get_or-set_same}
use Rattle.std.proofs.lemmas.Option.{slice_get_cases}
use Rattle.std.specs.Prelude.{Option, Some, None, slice_get, slice_set}
use Rattle.s38_code.specs.declared.event.Event.{Event}
use Rattle.s38_code.specs.declared.event.Event.TheVariants.{Start, Act, Finish}
use Rattle.s38_code.specs.declared.reply.Reply.{Reply}
use Rattle.s38_code.specs.declared.reply.Reply.TheVariants.{Done, Signal, MustWait}
use Rattle.s38_rules.specs.declared.process.ProcessEntry.{ProcessEntry}
use Rattle.s38_rules.specs.declared.verdict.Verdict.{Verdict}
use Rattle.s38_rules.specs.declared.verdict.Verdict.TheVariants.{Permit, Wait, Refuse}
use Rattle.s38_rules.specs.state.State.{State, is_early, process_entry, ready, ready_in, waits}
use Rattle.s38_rules.specs.step.Effect.{effect_of, end_at, start_at}
use Rattle.s38_rules.specs.step.Step.{Stepped, awake_verdict, by_verdict, by_waiting, step}
use Rattle.s38_process.specs.AfterReply.{is_finish}
use Rattle.s38_rules.specs.families.Rows.{row}
use Rattle.s38_rules.specs.families.Instruction.{AreKept}
use Rattle.s38_rules.proofs.Laws.{act_keeps, all_decommitted_keeps, kept_count}
use Rattle.s38_rules.proofs.RoomLaws.{end_permitted}
use Rattle.s38_rules.proofs.StoreLaws.{stored_beside}
use Rattle.s38_run.specs.Running.{HasEnded, OthersStay}
use Rattle.s38_run.proofs.WaitLaws.{waits_beside}
use Rattle.s38_run.proofs.ReadyLaws.{OtherReady, kept_outline, outline, start_outline, with_waiting}

-- how the waiting change with a reply
abbrev pub MovesBy : State → ℕ → Reply → State → Type 0
MovesBy s p (Done vs) t = t.waiting ≡ []
MovesBy s p (Signal x) t = t ≡ s
MovesBy s p MustWait t = (t ≡ with_waiting s p) × OtherReady s p

-- what we want of an outcome
pub record GoesTo (s : State) (p : ℕ) (e : Event) (x : Stepped) : Type 0 where
  pub entered : x.enters ≡ true
  pub stay : OthersStay s.processes x.state.processes (p - 1)
  pub moves : MovesBy s p x.reply x.state
  -- who is ready is decided as before, but after an end
  pub same : is_finish e ≡ false → outline x.state.processes ≡ outline s.processes
  pub ended : is_finish e ≡ true → HasEnded x.state.processes (p - 1) × (x.reply ≢ MustWait)

same_stays : (xs : List ProcessEntry) (i : ℕ) → OthersStay xs xs i
same_stays xs i = record { count = refl; same = λ k d h. refl }

set_stays : (xs : List ProcessEntry) (i : ℕ) (y : ProcessEntry) → OthersStay xs (slice_set xs i y) i
set_stays xs i y = record { count = simp length-set; same = λ k d h. rw get_or-set_other refl }

start_stays : (s : State) (p : ℕ) (o : Option ProcessEntry) → OthersStay s.processes (start_at s p o).processes (p - 1)
start_stays s p None = same_stays s.processes (p - 1)
start_stays s p (Some x) = set_stays s.processes (p - 1) _

end_stays : (s : State) (p : ℕ) (o : Option ProcessEntry) → OthersStay s.processes (end_at s p o).processes (p - 1)
end_stays s p None = same_stays s.processes (p - 1)
end_stays s p (Some x) =
    subst (λ (ys : List ProcessEntry). OthersStay s.processes (slice_set ys (p - 1) (record x { ended = true })) (p - 1))
    (sym (all_decommitted_keeps s.units s p)) (set_stays s.processes (p - 1) (record x { ended = true }))

kept_stays : (p : ℕ) (xs ys : List ProcessEntry) → AreKept p xs ys → OthersStay xs ys (p - 1)
kept_stays p xs ys kept = record { count = kept_count p xs ys kept; same = kept.others }

effect_stays : (s : State) (p : ℕ) (e : Event) → OthersStay s.processes (effect_of s p e).state.processes (p - 1)
unfolding effect_of
effect_stays s p Start = start_stays s p (process_entry s p)
effect_stays s p (Act depth request) = kept_stays p s.processes _ (act_keeps (row request.op) s p depth request)
effect_stays s p (Finish cause) = end_stays s p (process_entry s p)

effect_outline : (s : State) (p : ℕ) (e : Event) → is_finish e ≡ false → outline (effect_of s p e).state.processes ≡ outline s.processes
unfolding effect_of
effect_outline s p Start f = start_outline s p (process_entry s p) refl
effect_outline s p (Act depth request) f = kept_outline p s.processes _ (act_keeps (row request.op) s p depth request)
effect_outline s p (Finish cause) f = cc

end_ends : (s : State) (p : ℕ) (o : Option ProcessEntry) → slice_get s.processes (p - 1) ≡ o → p - 1 < length s.processes → HasEnded (end_at s p o).processes (p - 1)
end_ends s p None h within = elim (slice_get_cases s.processes (p - 1)).1 as (λ _. HasEnded s.processes (p - 1)) [
  | inl w ↦ absurd (none_some w.0 (sym h ∙ w.2))
  | inr w ↦ absurd (omega (arith, w.0, within))
]
  where
    none_some : (x : ProcessEntry) → None ≡ Some x → ⊥
    none_some x g = cc
end_ends s p (Some x) h within =
    subst (λ (ys : List ProcessEntry). HasEnded (slice_set ys (p - 1) (record x { ended = true })) (p - 1))
    (sym (all_decommitted_keeps s.units s p)) (record { is = λ d. rw get_or-set_same refl })

effect_ends : (s : State) (p : ℕ) (e : Event) → is_finish e ≡ true → p - 1 < length s.processes → HasEnded (effect_of s p e).state.processes (p - 1)
unfolding effect_of
effect_ends s p Start f within = cc
effect_ends s p (Act depth request) f within = cc
effect_ends s p (Finish cause) f within = end_ends s p (process_entry s p) refl within

-- an end is permitted
finish_permits : (s : State) (p : ℕ) (e : Event) → is_finish e ≡ true → awake_verdict s p e ≡ Permit
finish_permits s p Start f = cc
finish_permits s p (Act depth request) f = cc
finish_permits s p (Finish cause) f = end_permitted s p cause

goes_by : (s : State) (p : ℕ) (e : Event) (v : Verdict) → p - 1 < length s.processes → ready s p ≡ true → awake_verdict s p e ≡ v → GoesTo s p e (by_verdict s p e v)
goes_by s p e Permit within r is = let beside = (stored_beside s p e (effect_of s p e).state).processes in record {
  entered = refl;
  stay = subst (λ (xs : List ProcessEntry). OthersStay s.processes xs (p - 1)) (sym beside) (effect_stays s p e);
  moves = refl;
  same = λ f. ap outline beside ∙ effect_outline s p e f;
  ended = λ f. (subst (λ (xs : List ProcessEntry). HasEnded xs (p - 1)) (sym beside) (effect_ends s p e f within), λ h. cc);
}
goes_by s p e (Refuse x) within r is = record {
  entered = refl;
  stay = same_stays s.processes (p - 1);
  moves = refl;
  same = λ f. refl;
  ended = λ f. absurd (apart (sym (finish_permits s p e f) ∙ is));
}
  where
    apart : Permit ≡ Refuse x → ⊥
    apart g = cc
goes_by s p e Wait within r is = record {
  entered = refl;
  stay = same_stays s.processes (p - 1);
  moves = (refl, waits_beside s p e is r);
  same = λ f. refl;
  ended = λ f. absurd (apart (sym (finish_permits s p e f) ∙ is));
}
  where
    apart : Permit ≡ Wait → ⊥
    apart g = cc

ready_awake : (s : State) (p : ℕ) (o : Option ProcessEntry) → ready_in s p o ≡ true → waits s p ≡ false
ready_awake s p None r = cc
ready_awake s p (Some x) r = third x.ended (is_early s.processes x.job.stage) (waits s p) r
  where
    third : (ended early waiting : Bool) → (not ended && (not early && not waiting)) ≡ true → waiting ≡ false
    third true early waiting h = cc
    third false true waiting h = cc
    third false false true h = cc
    third false false false h = refl

-- each event of a process that is ready is entered
pub goes : (s : State) (p : ℕ) (e : Event) → p - 1 < length s.processes → ready s p ≡ true → GoesTo s p e (step s p e)
unfolding step
goes s p e within r =
    subst (λ (b : Bool). GoesTo s p e (by_waiting b s p e)) (sym (ready_awake s p (process_entry s p) r))
    (goes_by s p e (awake_verdict s p e) within r refl)
