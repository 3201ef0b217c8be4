-- The checked templates of a deck, and whole runs of its jobs.
use Rattle.std.specs.Prelude.{◌≡◌, ◌≢◌, ◌<◌, ℕ, ◌+◌, All, List, [], map, Option, Some, length, slice_get}
use Rattle.std.specs.Option.{option_map, unwrap_or}
use Rattle.s38_code.specs.declared.deck.Deck.{Deck}
use Rattle.s38_code.specs.declared.deck.Job.{Job}
use Rattle.s38_code.specs.declared.entry.Entry.{Entry}
use Rattle.s38_code.specs.declared.made.CheckedTemplate.{CheckedTemplate}
use Rattle.s38_code.specs.declared.made.CreateResult.{CreateResult}
use Rattle.s38_code.specs.History.{entries_of}
use Rattle.s38_code.specs.declared.made.CreateResult.TheVariants.{Refused}
use Rattle.s38_laws_confinement.specs.Confined.{AllWithin, NeverUsed, StaysClosed}
use Rattle.s38_laws_confinement.specs.NoWay.{NoWay}
use Rattle.s38_create.specs.Checked.{made_of}
use Rattle.s38_laws_processes.specs.owners.Beginnings.{state_over}
use Rattle.s38_rules.specs.state.State.{State}
use Rattle.s38_rules.specs.step.Legal.{AreMoments, Leads, no_moment}
use Rattle.s38_rules.specs.state.Held.{Held}
use Rattle.s38_rules.specs.store.Room.{Room}
use Rattle.s38_process.specs.Process.{ProcessState, fresh}
use Rattle.s38_process.specs.AfterReply.{RanFrom}
use Rattle.s38_run.specs.Picked.{Picked}
use Rattle.s38_run.specs.Pickers.{number_after, number_answer, picks_of}
use Rattle.s38_run.specs.Whole.{RanWhole}
use Rattle.s38_template.specs.Grammar.{name_of}
use Rattle.s38_template.specs.Places.{template_of}
use Rattle.s38_command.specs.declared.turns.Turns.{Turns}
use Rattle.s38_command.specs.declared.turns.Turns.TheVariants.{Serial, Workers}

-- a template by its name, and what creation makes of its lines
abbrev pub checked_template : List (List ℕ) → CheckedTemplate
checked_template lines = record { name = name_of lines; made = made_of lines }

-- the checked templates of a deck, in order
abbrev pub checked_of : Deck → List CheckedTemplate
checked_of deck = map checked_template deck.templates

-- what creation makes of the template that a job names
abbrev pub made_for : Deck → Job → Option CreateResult
made_for deck job = option_map made_of (template_of deck job)

-- the entries are the whole run of a job of the deck
pub record IsRunOfJob (deck : Deck) (job : Job) (entries : List Entry) : Type 0 where
  pub made : CreateResult
  pub is : made_for deck job ≡ Some made
  pub ran : RanWhole made job.budget entries

-- so many picks of the picker that begins at a number
abbrev pub picks_begun_at : ℕ → ℕ → List ℕ
picks_begun_at pick count = picks_of number_answer number_after count pick

-- the state in which the jobs of a deck find a machine of these objects, with the deck's templates; over a store, with its
-- room
abbrev pub opened_machine : Option Room → Held → Deck → State
opened_machine room held deck = state_over room held (checked_of deck) deck.jobs

-- on one thread each entry is that of a job, made by the process that its pick chooses of those that are ready
abbrev pub turns_by : {P : Type 0} → (P → ℕ) → (P → P) → P → State → List Entry → Type 0
turns_by answer after picker s history = Picked (picks_of answer after (length history) picker) s history

-- in which order entries are made: on one thread by the picks of the picker that begins at a number; of threads nothing is
-- said
abbrev pub made_in_order : Turns → State → List Entry → Type 0
made_in_order (Serial pick) s history = Picked (picks_begun_at pick (length history)) s history
made_in_order (Workers count) s history = Unit {0}

-- the history is the one-thread machine's, from these objects with the deck's templates, for the whole runs of all
-- jobs of the deck, and its entries are in this order
pub record IsRunOf (room : Option Room) (held : Held) (Order : State → List Entry → Type 0) (deck : Deck) (history : List Entry) : Type 0 where
  pub state : State
  pub legal : Leads (opened_machine room held deck) [] history state
  pub order : Order (opened_machine room held deck) history
  pub each : (k : ℕ) (job : Job) → slice_get deck.jobs k ≡ Some job → IsRunOfJob deck job (entries_of (k + 1) history)

-- the entries are the first ones of a job of the deck
pub record IsFrontOfJob (deck : Deck) (job : Job) (entries : List Entry) : Type 0 where
  pub made : CreateResult
  pub is : made_for deck job ≡ Some made
  pub ran : RanFrom (fresh made job.budget) entries

-- the same of a run that was not made to its end
pub record IsRunTo (room : Option Room) (held : Held) (Order : State → List Entry → Type 0) (deck : Deck) (history : List Entry) : Type 0 where
  pub state : State
  pub legal : Leads (opened_machine room held deck) [] history state
  pub order : Order (opened_machine room held deck) history
  pub each : (k : ℕ) (job : Job) → slice_get deck.jobs k ≡ Some job → IsFrontOfJob deck job (entries_of (k + 1) history)

-- ---- confinement

abbrev pub no_program : CreateResult
no_program = Refused 0 0

-- the process of a job as it begins
abbrev pub process_of : Deck → Job → ProcessState
process_of deck job = fresh (unwrap_or (made_for deck job) no_program) job.budget

-- those of a deck, in the order of its jobs
abbrev pub processes_of : Deck → List ProcessState
processes_of deck = map (process_of deck) deck.jobs

-- where no way to a right on an object is open for users at the beginning, and they alone act, the right is never used,
-- and no way is open at the end
abbrev pub IsConfined : Option Room → Held → Deck → List Entry → State → Type 0
IsConfined room held deck history end =
    (users : List ℕ) (o r : ℕ) → o ≢ 0 → NoWay held users o r → AllWithin users (opened_machine room held deck) history
    → NeverUsed (opened_machine room held deck) history o r × StaysClosed (processes_of deck) history end users o r

-- the mark of an entry that was answered without a store
abbrev pub IsUnstored : ℕ → Type 0
IsUnstored mark = mark ≡ no_moment

-- each entry has a mark, and since there is no store all are those of one moment
pub record AreMarks (marks : List ℕ) (history : List Entry) : Type 0 where
  pub count : length marks ≡ length history
  pub stamped : All IsUnstored marks

-- each entry has a mark: a moment of the store, in order, from one on to another
pub record AreStoreMarks (first last : ℕ) (marks : List ℕ) (history : List Entry) : Type 0 where
  pub count : length marks ≡ length history
  pub moments : AreMoments first marks last

-- ---- on the way there

-- the checked template of a job is at this place
pub record MadeAt (deck : Deck) (job : Job) (templates : List CheckedTemplate) (at : ℕ) : Type 0 where
  pub within : at < length templates
  pub template : CheckedTemplate
  pub there : slice_get templates at ≡ Some template
  pub is : made_for deck job ≡ Some template.made
