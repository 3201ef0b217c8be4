-- A process that is ready waits only beside another that is: one that would be the last is refused.
use Rattle.std.proofs.Common.{◌≡◌, ◌≢◌, ℕ, suc, ◌+◌, ◌-◌, Bool, true, false, cond, List, [], ◌∷◌, refl, sym, ◌∙◌, subst, inl, inr, not, ◌&&◌, ◌||◌, ◌==◌, arith}
use Rattle.std.proofs.lemmas.Bool.Decides.{nat_tests}
use Rattle.std.proofs.lemmas.Option.{slice_get_within}
use Rattle.std.specs.Prelude.{◌⊎◌, Option, Some, None, slice_get}
use Rattle.s38_base.specs.declared.exception.Exception.{Exception}
use Rattle.s38_code.specs.declared.event.Event.{Event}
use Rattle.s38_code.specs.declared.event.Event.TheVariants.{Start, Act, Finish}
use Rattle.s38_code.specs.declared.event.Request.{Request}
use Rattle.s38_rules.specs.declared.process.ProcessEntry.{ProcessEntry}
use Rattle.s38_rules.specs.declared.verdict.Verdict.TheVariants.{Refuse, Wait}
use Rattle.s38_rules.specs.families.Rows.{row}
use Rattle.s38_rules.specs.state.State.{State, is_early, is_last_ready, no_other_ready, process_entry, ready, ready_in, waits}
use Rattle.s38_rules.specs.step.Verdict.{may_wait, of_failure, of_request, refused_by, ruled_verdict, start_failure, start_verdict, unless_last}
use Rattle.s38_rules.proofs.RoomLaws.{waits_by_rules}
use Rattle.s38_rules.specs.step.Step.{awake_verdict}
use Rattle.s38_run.proofs.ReadyLaws.{OtherReady}

-- ---- a start of the current stage does not wait

no_wait : (o : Option Exception) → of_failure o ≡ Wait → ⊥
no_wait None h = cc
no_wait (Some x) h = cc

ready_early : (ended early waiting : Bool) → (not ended && (not early && not waiting)) ≡ true → early ≡ false
ready_early true early waiting h = cc
ready_early false true waiting h = cc
ready_early false false waiting h = refl

start_goes : (s : State) (p : ℕ) (o : Option ProcessEntry) → ready_in s p o ≡ true → start_verdict s p o ≡ Wait → ⊥
start_goes s p None r w = cc
start_goes s p (Some x) r w =
    let early : is_early s.processes x.job.stage ≡ false = ready_early x.ended (is_early s.processes x.job.stage) (waits s p) r in
    no_wait (start_failure s.held x.job) (by_early (is_early s.processes x.job.stage) early w)
  where
    by_early : (b : Bool) → b ≡ false → cond b Wait (of_failure (start_failure s.held x.job)) ≡ Wait → of_failure (start_failure s.held x.job) ≡ Wait
    by_early true f h = cc
    by_early false f h = h

-- ---- a request waits where the process is not the last

wait_by : (may last : Bool) (x : Exception) → cond may (unless_last last) (Refuse x) ≡ Wait → last ≡ false
wait_by true true x h = cc
wait_by true false x h = refl
wait_by false last x h = cc

request_waits : (s : State) (p : ℕ) (r : Request) (o : Option Exception) → of_request s p r o ≡ Wait → is_last_ready s p ≡ false
unfolding of_request
request_waits s p r None h = cc
request_waits s p r (Some x) h = wait_by (may_wait r.op r.operands x.id) (is_last_ready s p) x h

-- ---- and then another is ready

-- one of the processes from a number on
record Another (s : State) (p n : ℕ) (xs : List ProcessEntry) : Type 0 where
  pub place : ℕ
  pub entry : ProcessEntry
  pub there : slice_get xs place ≡ Some entry
  pub other : n + place ≢ p
  pub ready : ready_in s (n + place) (Some entry) ≡ true

stands_by : (same here rest : Bool) → ((same || not here) && rest) ≡ false → ((same ≡ false) × (here ≡ true)) ⊎ (rest ≡ false)
stands_by true here rest h = inr h
stands_by false true rest h = inl (refl, refl)
stands_by false false rest h = inr h

differ : (n p : ℕ) → (n == p) ≡ false → n ≢ p
differ n p h = λ e.
    let same : (n == p) ≡ true = grind (arith, nat_tests) in
    two (sym h ∙ same)
  where
    two : false ≡ true → ⊥
    two g = cc

another_from : (s : State) (p n : ℕ) (xs : List ProcessEntry) → no_other_ready s p n xs ≡ false → Another s p n xs
another_from s p n [] h = cc
another_from s p n (x ∷ xs) h =
    elim (stands_by (n == p) (ready_in s n (Some x)) (no_other_ready s p (n + 1) xs) h) as (λ _. Another s p n (x ∷ xs)) [
      | inl w ↦
          let first : n ≡ n + 0 = omega arith in
          record { place = 0; entry = x; there = refl; other = subst (λ (m : ℕ). m ≢ p) first (differ n p w.0); ready = subst (λ (m : ℕ). ready_in s m (Some x) ≡ true) first w.1 }
      | inr g ↦
          let rest = another_from s p (n + 1) xs g in
          let on : n + 1 + rest.place ≡ n + suc rest.place = omega arith in
          record {
            place = suc rest.place;
            entry = rest.entry;
            there = rest.there;
            other = subst (λ (m : ℕ). m ≢ p) on rest.other;
            ready = subst (λ (m : ℕ). ready_in s m (Some rest.entry) ≡ true) on rest.ready;
          }
    ]

ready_entry : (s : State) (k : ℕ) (x : ProcessEntry) (o : Option ProcessEntry) → o ≡ Some x → ready_in s k (Some x) ≡ true → ready_in s k o ≡ true
ready_entry s k x o at is = subst (λ (y : Option ProcessEntry). ready_in s k y ≡ true) (sym at) is

other_ready : (s : State) (p : ℕ) → is_last_ready s p ≡ false → OtherReady s p
other_ready s p h =
    let one = another_from s p 1 s.processes h in
    let within = slice_get_within s.processes one.place one.entry one.there in
    let place : one.place ≡ 1 + one.place - 1 = omega arith in
    record {
      number = 1 + one.place;
      is = record { first = omega arith; last = omega (arith, within) };
      other = one.other;
      ready = ready_entry s (1 + one.place) one.entry (process_entry s (1 + one.place)) (subst (λ (k : ℕ). slice_get s.processes k ≡ Some one.entry) place one.there) one.ready;
    }

ruled_beside : (s : State) (p : ℕ) (e : Event) → ruled_verdict s p e ≡ Wait → ready s p ≡ true → OtherReady s p
unfolding ruled_verdict
ruled_beside s p Start w r = absurd (start_goes s p (process_entry s p) r w)
ruled_beside s p (Act depth request) w r = other_ready s p (request_waits s p request (refused_by (row request.op) s p depth request) w)
ruled_beside s p (Finish cause) w r = cc

-- where a process waits, another is ready, that may wake it
pub waits_beside : (s : State) (p : ℕ) (e : Event) → awake_verdict s p e ≡ Wait → ready s p ≡ true → OtherReady s p
waits_beside s p e w r = ruled_beside s p e (waits_by_rules s p e w) r
