-- In a whole run the right owners act, and replies suit.
use Rattle.std.proofs.Common.{List, [], ℕ, refl}
use Rattle.std.specs.Option.{option_map, unwrap_or}
use Rattle.std.specs.Prelude.{None, Option, Some}
use Rattle.s38_code.specs.declared.deck.Deck.{Deck}
use Rattle.s38_code.specs.declared.deck.Job.{Job}
use Rattle.s38_code.specs.declared.entry.Entry.{Entry}
use Rattle.s38_create.specs.Checked.{made_of}
use Rattle.s38_laws_images.proofs.openings.OrderLaws.{in_order}
use Rattle.s38_laws_images.specs.openings.Opening.{IsOpening}
use Rattle.s38_laws_processes.proofs.owners.CreateLaws.{each_fresh, refused_checked, template_checked, templates_checked}
use Rattle.s38_laws_processes.proofs.owners.HistoryLaws.{history_agrees, opening_begins}
use Rattle.s38_laws_processes.specs.owners.Beginnings.{AreAsked, Begin, IsChecked, IsFresh}
use Rattle.s38_laws_processes.specs.owners.Owners.{AllOwnersAgree}
use Rattle.s38_laws_processes.proofs.replies.HistoryLaws.{history_suits}
use Rattle.s38_laws_processes.specs.replies.Replies.{AllSuit}
use Rattle.s38_rules.specs.store.Room.{Room}
use Rattle.s38_rules.specs.state.Held.{Held}
use Rattle.s38_rules.specs.state.State.{State}
use Rattle.s38_template.specs.Places.{template_of}
use Rattle.s38_top.proofs.ConfinedLaws.{each_ran}
use Rattle.s38_top.specs.Decks.{IsRunOf, checked_of, checked_template, made_for, no_program, opened_machine, process_of, processes_of}

-- what a job runs is checked
job_checked : (o : Option (List (List ℕ))) → IsChecked (unwrap_or (option_map made_of o) no_program)
job_checked None = refused_checked 0 0
job_checked (Some lines) = template_checked lines

job_fresh : (deck : Deck) (job : Job) → IsFresh (process_of deck job)
job_fresh deck job = record { made = unwrap_or (made_for deck job) no_program; budget = job.budget; is = refl; checked = job_checked (template_of deck job) }

-- the jobs of a deck begin
run_begins : (room : Option Room) (held : Held) (deck : Deck) → IsOpening held → Begin (processes_of deck) (opened_machine room held deck)
run_begins room held deck opening =
    opening_begins room held (checked_of deck) deck.jobs (processes_of deck) (in_order held opening) (templates_checked checked_template deck.templates template_checked)
    (each_fresh (process_of deck) deck.jobs (job_fresh deck))

run_asked : (room : Option Room) (held : Held) (Order : State → List Entry → Type 0) (deck : Deck) (history : List Entry) → IsRunOf room held Order deck history → AreAsked (processes_of deck) history
run_asked room held Order deck history run = record { each = (each_ran room held Order deck history run).each }

pub run_owned : (room : Option Room) (held : Held) (Order : State → List Entry → Type 0) (deck : Deck) (history : List Entry) → IsOpening held → (run : IsRunOf room held Order deck history)
    → AllOwnersAgree (processes_of deck) (opened_machine room held deck) [] history
run_owned room held Order deck history opening run =
    history_agrees (processes_of deck) (opened_machine room held deck) history run.state (run_begins room held deck opening) run.legal (run_asked room held Order deck history run)

pub run_suits : (room : Option Room) (held : Held) (Order : State → List Entry → Type 0) (deck : Deck) (history : List Entry) → IsOpening held → (run : IsRunOf room held Order deck history) → AllSuit (processes_of deck) [] history
run_suits room held Order deck history opening run =
    history_suits (processes_of deck) (opened_machine room held deck) history run.state (run_begins room held deck opening) run.legal (run_asked room held Order deck history run)
