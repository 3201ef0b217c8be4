-- Who waits asks for the same again.
use Rattle.std.proofs.Common.{◌≡◌, ◌≢◌, ℕ, zero, suc, ◌+◌, ◌<◌, ◌≤◌, ◌==◌, Bool, true, false, cond, List, [], ◌∷◌, ◌++◌, length, refl, sym, ◌∙◌, ap, subst, arith}
use Rattle.std.proofs.lemmas.Bool.Decides.{nat_tests}
use Rattle.std.proofs.lemmas.Option.{same_Some}
use Rattle.std.specs.Prelude.{Some, nat_lt}
use Rattle.s38_code.specs.declared.entry.Entry.{Entry}
use Rattle.s38_code.specs.declared.made.CreateResult.{CreateResult}
use Rattle.s38_code.specs.declared.reply.Reply.{Reply}
use Rattle.s38_code.specs.declared.reply.Reply.TheVariants.{MustWait}
use Rattle.s38_code.specs.History.{entries_of}
use Rattle.s38_process.specs.Process.{ProcessState, event_of, fresh}
use Rattle.s38_process.specs.AfterReply.{RanFrom, absorbed, after_asked}
use Rattle.s38_process.specs.LocalRun.{after_local_run}
use Rattle.s38_process.proofs.Alone.{absorbed_waits, fresh_settled, settled_again}
use Rattle.s38_rules.proofs.Laws.{step_keeps}
use Rattle.s38_rules.specs.state.State.{State}
use Rattle.s38_rules.specs.step.Legal.{Leads}
use Rattle.s38_rules.specs.step.Step.{step}
use Rattle.s38_run.specs.Progress.{AllAskAgain, AsksSameAgain}

-- ---- one process

absorbed_settled : (d : ProcessState) (r : Reply) → after_local_run (absorbed d r) ≡ absorbed d r
unfolding absorbed
absorbed_settled d r = settled_again (after_asked d (event_of d) r)

-- what a settled process asks where it was told to wait
same_event : (d : ProcessState) (e f : Entry) → after_local_run d ≡ d → event_of d ≡ Some e.event → event_of (absorbed d e.reply) ≡ Some f.event → e.reply ≡ MustWait → f.event ≡ e.event
same_event d e f rests asks next waits =
    let stays : absorbed d e.reply ≡ d = ap (absorbed d) waits ∙ absorbed_waits d rests in
    same_Some _ _ (sym next ∙ ap event_of stays ∙ asks)

pub asks_again : (d : ProcessState) (es : List Entry) → after_local_run d ≡ d → RanFrom d es → AsksSameAgain es
asks_again d [] rests ran = tt
asks_again d (e ∷ []) rests ran = tt
asks_again d (e ∷ f ∷ es) rests ran = (same_event d e f rests ran.0 ran.1.0, asks_again (absorbed d e.reply) (f ∷ es) (absorbed_settled d e.reply) ran.1)

-- ---- all processes

other_first : (p : ℕ) (e : Entry) (es : List Entry) → e.process ≢ p → entries_of p (e ∷ es) ≡ entries_of p es
other_first p e es other = by (e.process == p) (grind (arith, nat_tests, other))
  where
    by : (b : Bool) → b ≡ false → cond b (e ∷ entries_of p es) (entries_of p es) ≡ entries_of p es
    by true h = cc
    by false h = refl

-- who is no process of a job has no entry
none_of_others : (s : State) (before es : List Entry) (t : State) (p : ℕ) → ((0 < p) × (p ≤ length s.processes) → ⊥) → Leads s before es t → entries_of p es ≡ []
none_of_others s before [] t p other leads = refl
none_of_others s before (e ∷ es) t p other leads =
    let one = leads.0.process in
    let apart : e.process ≢ p = λ same. other (omega (arith, same, one.first), omega (arith, same, one.last)) in
    other_first p e es apart
    ∙ none_of_others (step s e.process e.event).state (before ++ e ∷ []) es t p (λ here. other (here.0, omega (arith, here.1, step_keeps s e.process e.event))) leads.1

-- a process that has run from its start on
abbrev pub RanFromStart : List Entry → Type 0
RanFromStart es = (made : CreateResult) × (budget : ℕ) × RanFrom (fresh made budget) es

started_again : (es : List Entry) → RanFromStart es → AsksSameAgain es
started_again es ran = asks_again (fresh ran.0 ran.1) es (fresh_settled ran.0 ran.1) ran.2

same_again : (es fs : List Entry) → es ≡ fs → AsksSameAgain fs → AsksSameAgain es
same_again es fs same again = subst AsksSameAgain (sym same) again

pub history_again : (s t : State) (history : List Entry) → Leads s [] history t → ((k : ℕ) → k < length s.processes → RanFromStart (entries_of (k + 1) history)) → AllAskAgain history
history_again s t history leads ran zero = same_again (entries_of 0 history) [] (none_of_others s [] history t 0 (λ here. absurd (omega (arith, here.0))) leads) tt
history_again s t history leads ran (suc k) = by (nat_lt k (length s.processes)) refl
  where
    by : (b : Bool) → nat_lt k (length s.processes) ≡ b → AsksSameAgain (entries_of (suc k) history)
    by true is = started_again (entries_of (suc k) history) (subst (λ (p : ℕ). RanFromStart (entries_of p history)) (omega arith) (ran k (grind (arith, nat_tests))))
    by false is =
        let above : length s.processes ≤ k = grind (arith, nat_tests) in
        same_again (entries_of (suc k) history) [] (none_of_others s [] history t (suc k) (λ here. absurd (omega (arith, here.1, above))) leads) tt
