-- A whole run from an opening keeps the laws of runs.
use Rattle.std.specs.Prelude.{Option}
use Rattle.std.proofs.Common.{◌≡◌, ◌<◌, ℕ, ◌+◌, All, List, [], length, subst}
use Rattle.std.proofs.lemmas.List.{length-map}
use Rattle.s38_code.specs.declared.deck.Deck.{Deck}
use Rattle.s38_code.specs.declared.entry.Entry.{Entry}
use Rattle.s38_code.specs.History.{entries_of}
use Rattle.s38_laws_images.proofs.openings.BeginLaws.{opening_well, run_right, run_well}
use Rattle.s38_laws_images.specs.openings.Opening.{IsOpening}
use Rattle.s38_rules.specs.store.Room.{Room}
use Rattle.s38_rules.specs.state.Held.{Held}
use Rattle.s38_rules.specs.state.PrivateRows.{AreRows}
use Rattle.s38_rules.specs.state.State.{State}
use Rattle.s38_run.proofs.AgainLaws.{RanFromStart, history_again}
use Rattle.s38_run.proofs.ListedJobs.{there_is}
use Rattle.s38_run.proofs.ProgressLaws.{begins_going, history_awake, history_going}
use Rattle.s38_laws_state.proofs.EndLaws.{nothing_left}
use Rattle.s38_laws_state.proofs.FollowLaws.{run_live}
use Rattle.s38_laws_state.proofs.LaterLaws.{confined_later}
use Rattle.s38_laws_state.proofs.StepLaws.{run_in_order}
use Rattle.s38_laws_state.specs.Live.{AreRunByJobs, AreWholeRuns}
use Rattle.s38_top.proofs.ConfinedLaws.{as_many, each_ran, run_confined}
use Rattle.s38_top.proofs.OwnerLaws.{run_owned, run_suits}
use Rattle.s38_top.specs.Decks.{IsRunOf, checked_of, opened_machine, processes_of}
use Rattle.s38_top.specs.Laws.{KeepsLaws}

-- the private rows of an opening are in order
rows_in_order : (held : Held) → IsOpening held → All (λ x. AreRows x.rows) held.objects
rows_in_order held opening k d h = (opening.well k d h).rows

-- each job has the entries of a process, from its start on
run_by_jobs : (room : Option Room) (held : Held) (Order : State → List Entry → Type 0) (deck : Deck) (history : List Entry) → IsRunOf room held Order deck history → AreRunByJobs deck.jobs history
run_by_jobs room held Order deck history run = record {
  each = λ k job there. let one = run.each k job there in record { made = one.made; ran = one.ran.by_program };
}

whole_runs : (room : Option Room) (held : Held) (Order : State → List Entry → Type 0) (deck : Deck) (history : List Entry) → IsRunOf room held Order deck history → AreWholeRuns deck.jobs history
whole_runs room held Order deck history run = record { runs = run_by_jobs room held Order deck history run; whole = λ k job there. (run.each k job there).ran.whole }

-- a process of the opened machine is that of a job, and has run from its start on
from_start : (room : Option Room) (held : Held) (Order : State → List Entry → Type 0) (deck : Deck) (history : List Entry) → IsRunOf room held Order deck history
    → (k : ℕ) → k < length (opened_machine room held deck).processes → RanFromStart (entries_of (k + 1) history)
from_start room held Order deck history run k within =
    let many : length (opened_machine room held deck).processes ≡ length deck.jobs = length-map deck.jobs _ in
    let job = there_is deck.jobs k (subst (λ (n : ℕ). k < n) many within) in
    let one = run.each k job.0 job.1 in
    (one.made, job.0.budget, one.ran.by_program)

pub run_keeps : (room : Option Room) (held : Held) (Order : State → List Entry → Type 0) (deck : Deck) (history : List Entry) → IsOpening held → (run : IsRunOf room held Order deck history) → KeepsLaws room held deck history run.state
run_keeps room held Order deck history opening run = record {
  confined = run_confined room held Order deck history (rows_in_order held opening) run;
  later =
      confined_later (processes_of deck) (opened_machine room held deck) history run.state (opening_well room held (checked_of deck) deck.jobs opening) (as_many room held deck) run.legal
      (each_ran room held Order deck history run);
  owned = run_owned room held Order deck history opening run;
  suited = run_suits room held Order deck history opening run;
  live = (run_live room held (checked_of deck) deck.jobs history run.state (run_by_jobs room held Order deck history run) run.legal).0;
  left = nothing_left room held (checked_of deck) deck.jobs history run.state opening (whole_runs room held Order deck history run) run.legal;
  well = (run_well room held (checked_of deck) deck.jobs history run.state opening run.legal).0;
  ordered = (run_in_order room held (checked_of deck) deck.jobs history run.state opening run.legal).0;
  right = (run_right room held (checked_of deck) deck.jobs history run.state opening run.legal).0;
  going = history_going (opened_machine room held deck) history (begins_going room held (checked_of deck) deck.jobs);
  awake = history_awake (opened_machine room held deck) [] history run.state run.legal;
  again = history_again (opened_machine room held deck) run.state history run.legal (from_start room held Order deck history run);
}
