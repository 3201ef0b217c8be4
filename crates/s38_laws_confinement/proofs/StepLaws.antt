-- Step by step a history keeps every way closed, and never uses the right.
use Rattle.std.proofs.Common.{◌++◌, ◌+◌, ◌-◌, ◌<◌, ◌==◌, ◌∙◌, ◌∷◌, ◌≡◌, ◌≢◌, ◌≤◌, Bool, List, [], ap, append_assoc, arith, cond, false, length, refl, subst, suc, sym, true, zero, ℕ}
use Rattle.std.proofs.lemmas.Bool.Decides.{nat_tests}
use Rattle.std.proofs.lemmas.List.{append-nil}
use Rattle.std.specs.Prelude.{Some, slice_get}
use Rattle.s38_code.specs.History.{entries_of, is_of_process}
use Rattle.s38_code.specs.declared.entry.Entry.{Entry}
use Rattle.s38_process.specs.Process.{ProcessState, event_of}
use Rattle.s38_process.specs.AfterReply.{RanFrom, absorbed, process_after}
use Rattle.s38_rules.proofs.Laws.{step_keeps}
use Rattle.s38_rules.specs.step.Legal.{Leads}
use Rattle.s38_rules.specs.state.State.{State}
use Rattle.s38_rules.specs.step.Step.{step}
use Rattle.s38_laws_confinement.proofs.EffectLaws.{harmless_closed}
use Rattle.s38_laws_confinement.proofs.EventLaws.{step_kept}
use Rattle.s38_laws_confinement.proofs.ProcessLaws.{asks, goes_on}
use Rattle.s38_laws_confinement.proofs.AccessLaws.{IsShut, nat_same}
use Rattle.s38_laws_confinement.specs.Confined.{AllWithin, AreRun, BeginsClosed, Exercises, IsClosedAfter, NeverUsed, StaysClosed}
use Rattle.s38_laws_confinement.specs.NoWay.{IsHarmless, NoWay, NoWayIn}
use Rattle.s38_laws_confinement.specs.OfPointers.{OfEvent, OfReply}

-- ---- entries of one process

entries_append : (p : ℕ) (xs ys : List Entry) → entries_of p (xs ++ ys) ≡ entries_of p xs ++ entries_of p ys
entries_append p [] ys = refl
entries_append p (x ∷ xs) ys =
    let rest = entries_append p xs ys in
    elim (is_of_process p x) as (λ b. cond b (x ∷ entries_of p (xs ++ ys)) (entries_of p (xs ++ ys)) ≡ cond b (x ∷ entries_of p xs) (entries_of p xs) ++ entries_of p ys) [
      | true ↦ ap (λ (l : List Entry). x ∷ l) rest
      | false ↦ rest
    ]

own_entries : (p : ℕ) (done es : List Entry) (e : Entry) → e.process ≡ p → entries_of p (done ++ e ∷ es) ≡ entries_of p done ++ e ∷ entries_of p es
own_entries p done es e own =
    let on : is_of_process p e ≡ true = grind (arith, nat_tests) in
    entries_append p done (e ∷ es) ∙ ap (λ (b : Bool). entries_of p done ++ cond b (e ∷ entries_of p es) (entries_of p es)) on

other_entries : (p : ℕ) (done es : List Entry) (e : Entry) → (e.process == p) ≡ false → entries_of p (done ++ e ∷ es) ≡ entries_of p done ++ entries_of p es
other_entries p done es e off = entries_append p done (e ∷ es) ∙ ap (λ (b : Bool). entries_of p done ++ cond b (e ∷ entries_of p es) (entries_of p es)) off

-- what the process asks after its first entries is its next one
ran_next : (d : ProcessState) (xs ys : List Entry) (e : Entry) → RanFrom d (xs ++ e ∷ ys) → event_of (process_after d xs) ≡ Some e.event
ran_next d [] ys e h = h.0
ran_next d (x ∷ xs) ys e h = ran_next (absorbed d x.reply) xs ys e h.1

behind_last : (d : ProcessState) (xs : List Entry) (e : Entry) → process_after d (xs ++ e ∷ []) ≡ absorbed (process_after d xs) e.reply
behind_last d [] e = refl
behind_last d (x ∷ xs) e = behind_last (absorbed d x.reply) xs e

-- ---- over all entries

-- in the variables of no process a way is open
abbrev AreClosed : List ProcessState → List Entry → ℕ → ℕ → Type 0
AreClosed ds done o r = (k : ℕ) (d : ProcessState) → slice_get ds k ≡ Some d → NoWayIn o r (process_after d (entries_of (k + 1) done))

there_is : {A : Type 0} (xs : List A) (k : ℕ) → k < length xs → (x : A) × (slice_get xs k ≡ Some x)
there_is [] k h = absurd (omega (arith, h))
there_is (x ∷ xs) zero h = (x, refl)
there_is (x ∷ xs) (suc k) h = there_is xs k (omega (arith, h))

-- the entry's event opens no way
asked_closed : (ds : List ProcessState) (done es : List Entry) (e : Entry) (o r : ℕ) → 0 < e.process → e.process ≤ length ds → AreRun ds (done ++ e ∷ es)
    → AreClosed ds done o r → OfEvent (IsHarmless o r) e.event
asked_closed ds done es e o r first last run closed =
    let at = there_is ds (e.process - 1) (omega (arith, first, last)) in
    let next : e.process ≡ e.process - 1 + 1 = omega (arith, first) in
    let ran = subst (RanFrom at.0) (own_entries (e.process - 1 + 1) done es e next) (run.each (e.process - 1) at.0 at.1) in
    asks (IsHarmless o r) (process_after at.0 (entries_of (e.process - 1 + 1) done)) e.event (closed (e.process - 1) at.0 at.1) (ran_next at.0 _ _ e ran)

closed_next : (ds : List ProcessState) (done : List Entry) (e : Entry) (o r : ℕ) → OfReply (IsHarmless o r) e.reply → AreClosed ds done o r → AreClosed ds (done ++ e ∷ []) o r
closed_next ds done e o r reply closed k d there =
    elim (e.process == k + 1) as (λ b. (e.process == k + 1) ≡ b → NoWayIn o r (process_after d (entries_of (k + 1) (done ++ e ∷ [])))) [
      | true ↦ λ q.
          let now = process_after d (entries_of (k + 1) done) in
          let at : process_after d (entries_of (k + 1) (done ++ e ∷ [])) ≡ absorbed now e.reply =
          ap (process_after d) (own_entries (k + 1) done [] e (nat_same e.process (k + 1) q)) ∙ behind_last d (entries_of (k + 1) done) e in
          subst (NoWayIn o r) (sym at) (goes_on (IsHarmless o r) (harmless_closed o r) now e.reply (closed k d there) reply)
      | false ↦ λ q. subst (λ l. NoWayIn o r (process_after d l)) (sym (other_entries (k + 1) done [] e q ∙ append-nil (entries_of (k + 1) done))) (closed k d there)
    ] refl

stays_closed : (users : List ℕ) (o r : ℕ) → o ≢ 0 → (ds : List ProcessState) (s : State) (done history : List Entry) (end : State)
    → length ds ≡ length s.processes → IsShut s.held users o r → AreClosed ds done o r → Leads s done history end → AllWithin users s history → AreRun ds (done ++ history)
    → NeverUsed s history o r × StaysClosed ds (done ++ history) end users o r
stays_closed users o r some ds s done [] end same shut ways leads within run = (
  tt,
  record {
    objects = subst (λ (t : State). NoWay t.held users o r) leads shut.way;
    variables = λ k d there. subst (λ (l : List Entry). NoWayIn o r (process_after d (entries_of (k + 1) l))) (sym (append-nil done)) (ways k d there);
  },
)
stays_closed users o r some ds s done (e ∷ es) end same shut ways leads within run =
    let one = leads.0 in
    let asked = asked_closed ds done es e o r one.process.first (rw same one.process.last) run ways in
    let kept = step_kept users o r s e some shut asked within.0 in
    let ways_next = closed_next ds done e o r (subst (OfReply (IsHarmless o r)) one.reply kept.reply) ways in
    let rest = stays_closed users o r some ds (step s e.process e.event).state (done ++ e ∷ []) es end (same ∙ sym (step_keeps s e.process e.event)) kept.shut ways_next leads.1 within.1
    (subst (AreRun ds) (sym (append_assoc done (e ∷ []) es)) run) in
    ((subst (λ x. Exercises s e x o r → ⊥) one.reply kept.unused, rest.0), subst (λ l. StaysClosed ds l end users o r) (append_assoc done (e ∷ []) es) rest.1)

-- over a whole history
pub closed_history : (processes : List ProcessState) (first : State) (history : List Entry) (end : State) (users : List ℕ) (o r : ℕ) → BeginsClosed processes first users o r
    → Leads first [] history end → AllWithin users first history → AreRun processes history → NeverUsed first history o r × StaysClosed processes history end users o r
closed_history processes first history end users o r begins leads within run =
    stays_closed users o r begins.number processes first [] history end begins.count (record { way = begins.objects; rows = begins.rows }) begins.variables leads within run

-- over what comes after some entries
pub closed_later : (processes : List ProcessState) (before : List Entry) (s : State) (after : List Entry) (end : State) (users : List ℕ) (o r : ℕ) → IsClosedAfter processes before s users o r
    → Leads s before after end → AllWithin users s after → AreRun processes (before ++ after) → NeverUsed s after o r × StaysClosed processes (before ++ after) end users o r
closed_later processes before s after end users o r closed leads within run =
    stays_closed users o r closed.number processes s before after end closed.count (record { way = closed.objects; rows = closed.rows }) closed.variables leads within run
