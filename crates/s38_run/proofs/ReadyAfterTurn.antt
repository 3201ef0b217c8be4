-- Who is ready after a turn; where nobody is ready, nobody waits.
use Rattle.std.proofs.Common.{◌≡◌, ℕ, suc, ◌==◌, ◌⊎◌, Bool, true, false, not, ◌&&◌, List, [], ◌∷◌, length, inl, inr, refl, sym, ◌∙◌, ap, arith}
use Rattle.std.proofs.lemmas.Bool.Decides.{nat_tests}
use Rattle.std.specs.Prelude.{filter}
use Rattle.s38_code.specs.declared.event.Event.{Event}
use Rattle.s38_code.specs.declared.event.Event.TheVariants.{Start, Act, Finish}
use Rattle.s38_code.specs.declared.reply.Reply.{Reply}
use Rattle.s38_code.specs.declared.reply.Reply.TheVariants.{Done, Signal, MustWait}
use Rattle.s38_rules.specs.state.State.{State, ready, ready_list}
use Rattle.s38_rules.specs.step.Step.{step}
use Rattle.s38_process.specs.AfterReply.{is_finish}
use Rattle.s38_run.specs.declared.outcome.Outcome.TheVariants.{Changed}
use Rattle.s38_run.specs.Turns.{outcome_of, ready_after}
use Rattle.s38_run.proofs.ReadyLaws.{OtherReady, none_listed, outline, same_list, waiting_list, waiting_ready, with_waiting}
use Rattle.s38_run.proofs.Stepping.{GoesTo, MovesBy}

abbrev pub anyone : List ℕ → Bool
anyone ws = not (length ws == 0)

nobody : (ws : List ℕ) → anyone ws ≡ false → ws ≡ []
nobody [] h = refl
nobody (w ∷ ws) h =
    let some : (suc (length ws) == 0) ≡ false = grind (arith, nat_tests) in
    absurd (no_both (sym (ap not some) ∙ h))
  where
    no_both : true ≡ false → ⊥
    no_both g = cc

changed_list : (s t : State) (p : ℕ) (b : Bool) (was : List ℕ) → anyone s.waiting ≡ b → was ≡ ready_list s → length t.processes ≡ length s.processes → outline t.processes ≡ outline s.processes → t.waiting ≡ []
    → ready_after t p b Changed was ≡ ready_list t
changed_list s t p true was some is count same none = refl
changed_list s t p false was some is count same none = is ∙ sym (same_list s t count same (none ∙ sym (nobody s.waiting some)))

reply_list : (s t : State) (p : ℕ) (e : Event) (r : Reply) (was : List ℕ) → is_finish e ≡ false → was ≡ ready_list s → length t.processes ≡ length s.processes → outline t.processes ≡ outline s.processes → MovesBy s p r t
    → ready_after t p (anyone s.waiting) (outcome_of e r) was ≡ ready_list t
reply_list s t p Start (Done vs) was f is count same moves = changed_list s t p (anyone s.waiting) was refl is count same moves
reply_list s t p Start (Signal x) was f is count same moves = is ∙ ap ready_list (sym moves)
reply_list s t p Start MustWait was f is count same moves = ap (λ (qs : List ℕ). filter (λ q. not (p == q)) qs) is ∙ sym (waiting_list s p) ∙ ap ready_list (sym moves.0)
reply_list s t p (Act depth request) (Done vs) was f is count same moves = changed_list s t p (anyone s.waiting) was refl is count same moves
reply_list s t p (Act depth request) (Signal x) was f is count same moves = is ∙ ap ready_list (sym moves)
reply_list s t p (Act depth request) MustWait was f is count same moves = ap (λ (qs : List ℕ). filter (λ q. not (p == q)) qs) is ∙ sym (waiting_list s p) ∙ ap ready_list (sym moves.0)
reply_list s t p (Finish cause) r was f is count same moves = cc

finish_list : (s t : State) (p : ℕ) (e : Event) (r : Reply) (was : List ℕ) → is_finish e ≡ true → ready_after t p (anyone s.waiting) (outcome_of e r) was ≡ ready_list t
finish_list s t p Start r was f = cc
finish_list s t p (Act depth request) r was f = cc
finish_list s t p (Finish cause) r was f = refl

pub true_or_false : (b : Bool) → (b ≡ true) ⊎ (b ≡ false)
true_or_false true = inl refl
true_or_false false = inr refl

pub ready_on : (s : State) (p : ℕ) (e : Event) (was : List ℕ) → was ≡ ready_list s → GoesTo s p e (step s p e)
    → ready_after (step s p e).state p (anyone s.waiting) (outcome_of e (step s p e).reply) was ≡ ready_list (step s p e).state
ready_on s p e was is to = elim (true_or_false (is_finish e)) as (λ _. ready_after (step s p e).state p (anyone s.waiting) (outcome_of e (step s p e).reply) was ≡ ready_list (step s p e).state) [
  | inl f ↦ finish_list s (step s p e).state p e (step s p e).reply was f
  | inr f ↦ reply_list s (step s p e).state p e (step s p e).reply was f is to.stay.count (to.same f) to.moves
]

both_true : (a b : Bool) → a ≡ true → b ≡ false → (a && not b) ≡ true
both_true true false p q = refl
both_true true true p q = cc
both_true false b p q = cc

no_other : (s t : State) (p : ℕ) → t ≡ with_waiting s p → OtherReady s p → ready_list t ≡ [] → ⊥
no_other s t p is other none =
    let apart : (p == other.number) ≡ false = grind (arith, nat_tests, other.other) in
    let ready_then : ready (with_waiting s p) other.number ≡ true = waiting_ready s p other.number ∙ both_true (ready s other.number) (p == other.number) other.ready apart in
    let none_then : ready (with_waiting s p) other.number ≡ false = none_listed (with_waiting s p) other.number (sym (ap ready_list is) ∙ none) (record { first = other.is.first; last = other.is.last }) in
    no_both (sym ready_then ∙ none_then)
  where
    no_both : true ≡ false → ⊥
    no_both h = cc

pub awake_on : (s t : State) (p : ℕ) (r : Reply) → MovesBy s p r t → (ready_list s ≡ [] → s.waiting ≡ []) → ready_list t ≡ [] → t.waiting ≡ []
awake_on s t p (Done vs) moves was none = moves
awake_on s t p (Signal x) moves was none = ap (λ (u : State). u.waiting) moves ∙ was (sym (ap ready_list moves) ∙ none)
awake_on s t p MustWait moves was none = absurd (no_other s t p moves.0 moves.1 none)
