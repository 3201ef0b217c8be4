-- A whole run opens no way to a right.
use Rattle.std.proofs.Common.{◌≡◌, ◌≢◌, ℕ, ◌+◌, List, [], ◌∷◌, length, map, refl, sym, ◌∙◌, ap, subst, zero, suc}
use Rattle.std.proofs.lemmas.Bool.{cond_both}
use Rattle.std.proofs.lemmas.List.{length-map}
use Rattle.std.proofs.lemmas.List.Elements.{All-head, All-tail}
use Rattle.std.proofs.lemmas.Option.{same_Some}
use Rattle.std.specs.Prelude.{All, Option, Some, slice_get}
use Rattle.std.specs.Option.{unwrap_or}
use Rattle.s38_code.specs.declared.deck.Deck.{Deck}
use Rattle.s38_code.specs.declared.deck.Job.{Job}
use Rattle.s38_code.specs.declared.entry.Entry.{Entry}
use Rattle.s38_code.specs.declared.made.CreateResult.{CreateResult}
use Rattle.s38_code.specs.History.{entries_of}
use Rattle.s38_process.specs.Process.{ProcessState, fresh}
use Rattle.s38_process.specs.AfterReply.{RanFrom}
use Rattle.s38_rules.specs.store.Room.{Room}
use Rattle.s38_rules.specs.declared.object.Object.{Object}
use Rattle.s38_rules.specs.state.Headers.{rows_in}
use Rattle.s38_rules.specs.state.Held.{Held, has_number, object_in}
use Rattle.s38_rules.specs.state.PrivateRows.{AreRows}
use Rattle.s38_rules.specs.state.State.{State}
use Rattle.s38_laws_confinement.specs.Confined.{AreRun, BeginsClosed}
use Rattle.s38_laws_confinement.specs.NoWay.{IsHarmless, NoWay, NoWayIn}
use Rattle.s38_laws_confinement.proofs.ProcessLaws.{begins}
use Rattle.s38_laws_confinement.proofs.StepLaws.{closed_history}
use Rattle.s38_top.specs.Decks.{IsConfined, IsRunOf, made_for, no_program, opened_machine, process_of, processes_of}

-- what is at a place of a list that was mapped
mapped_at : {A B : Type 0} (f : A → B) (xs : List A) (k : ℕ) (y : B) → slice_get (map f xs) k ≡ Some y → (x : A) × (slice_get xs k ≡ Some x) × (f x ≡ y)
mapped_at f [] k y h = cc
mapped_at f (x ∷ xs) zero y h = (x, refl, same_Some (f x) y h)
mapped_at f (x ∷ xs) (suc k) y h = mapped_at f xs k y h

made_is : (deck : Deck) (job : Job) (made : CreateResult) → made_for deck job ≡ Some made → process_of deck job ≡ fresh made job.budget
made_is deck job made h = ap (λ (m : Option CreateResult). fresh (unwrap_or m no_program) job.budget) h

-- each process of the deck ran by its job
pub each_ran : (room : Option Room) (held : Held) (Order : State → List Entry → Type 0) (deck : Deck) (history : List Entry) → IsRunOf room held Order deck history → AreRun (processes_of deck) history
each_ran room held Order deck history run = record {
  each = λ k d there.
      let at = mapped_at (process_of deck) deck.jobs k d there in
      let one = run.each k at.0 at.1 in
      subst (λ (x : ProcessState). RanFrom x (entries_of (k + 1) history)) (sym (made_is deck at.0 one.made one.is) ∙ at.2) one.ran.by_program;
}

begins_closed : (deck : Deck) (o r k : ℕ) (d : ProcessState) → slice_get (processes_of deck) k ≡ Some d → NoWayIn o r d
begins_closed deck o r k d there =
    let at = mapped_at (process_of deck) deck.jobs k d there in
    subst (λ (x : ProcessState). NoWayIn o r x) at.2 (begins (IsHarmless o r) (unwrap_or (made_for deck at.0) no_program) at.0.budget)

pub as_many : (room : Option Room) (held : Held) (deck : Deck) → length (processes_of deck) ≡ length (opened_machine room held deck).processes
as_many room held deck = length-map deck.jobs (process_of deck) ∙ sym (length-map deck.jobs _)

-- ---- the openings

rows_kept : (os : List Object) (n : ℕ) → All (λ x. AreRows x.rows) os → AreRows (rows_in (object_in os n))
rows_kept [] n all = tt
rows_kept (x ∷ os) n all =
    cond_both (has_number n x) (Some x) (object_in os n) (λ y. AreRows (rows_in y))
    (λ yes. All-head (λ x. AreRows x.rows) x os all) (λ no. rows_kept os n (All-tail (λ x. AreRows x.rows) x os all))

begins_shut : (room : Option Room) (held : Held) (deck : Deck) (users : List ℕ) (o r : ℕ) → All (λ x. AreRows x.rows) held.objects → o ≢ 0 → NoWay held users o r → BeginsClosed (processes_of deck) (opened_machine room held deck) users o r
begins_shut room held deck users o r in_order some none = record {
  count = as_many room held deck;
  number = some;
  objects = none;
  rows = rows_kept held.objects o in_order;
  variables = begins_closed deck o r;
}

pub run_confined : (room : Option Room) (held : Held) (Order : State → List Entry → Type 0) (deck : Deck) (history : List Entry) → All (λ x. AreRows x.rows) held.objects → (run : IsRunOf room held Order deck history) → IsConfined room held deck history run.state
run_confined room held Order deck history in_order run users o r some none within =
    closed_history (processes_of deck) (opened_machine room held deck) history run.state users o r (begins_shut room held deck users o r in_order some none) run.legal within (each_ran room held Order deck history run)
