-- What a process asks of the machine that it shares, and what it is told.
use Rattle.std.specs.Prelude.{◌≡◌, ℕ, ◌<◌, ◌≤◌, List, [], ◌∷◌, ◌++◌, Option, Some, None, Result, Ok, Err, ⊤}
use Rattle.s38_base.specs.declared.fault.NoMemory.{NoMemory}
use Rattle.s38_code.specs.declared.entry.Entry.{Entry}
use Rattle.s38_code.specs.declared.event.Event.{Event}
use Rattle.s38_code.specs.declared.reply.Reply.{Reply}
use Rattle.s38_code.specs.declared.step.StepFault.{StepFault}
use Rattle.s38_code.specs.declared.step.StepFault.TheVariants as faults
use Rattle.s38_process.specs.declared.status.Status.TheVariants.{Ended}
use Rattle.s38_process.specs.Process.{ProcessState, event_of}
use Rattle.s38_process.specs.AfterReply.{RanFrom, absorbed, process_after}
use Rattle.s38_turn.specs.declared.item.Item.{Item}
use Rattle.s38_turn.specs.declared.item.Item.TheVariants.{Entered, Stopped}
use Rattle.s38_turn.specs.declared.view.ProcessList.{ProcessList}
use Rattle.s38_turn.specs.Calls.{IsLike}
use Rattle.s38_turn.specs.Items.{entries_in}
use Rattle.s38_turn.specs.Lists.{has}
use Rattle.s38_workers.specs.declared.hearer.Heard.{Heard}

-- each process from 1 to n may ask everything
abbrev pub AllMayAsk : {O : Type 0} → (O → ℕ → Event → List Entry → Type 0) → O → ℕ → Type 0
AllMayAsk may_ask origin n = (process : ℕ) (event : Event) (entries : List Entry) → 0 < process → process ≤ n → may_ask origin process event entries

-- a seat has the processes that it had
abbrev pub HasSame : List ProcessList → List ProcessList → Type 0
HasSame old new = (process : ℕ) → has process new ≡ has process old

-- a step of a machine like the first was answered Stopped
pub record WasStopped {M O : Type 0} (sound : M → Type 0) (origin : M → O) (steps : M → ℕ → Event → Result Reply StepFault → M → Type 0) (first : M) : Type 0 where
  pub before : M
  pub after : M
  pub process : ℕ
  pub event : Event
  pub like_first : IsLike sound origin first before
  pub stepped : steps before process event (Err faults.Stopped) after

-- what a call is for a process, by what it heard
abbrev pub told : Result ⊤ StepFault → Result Heard NoMemory → Result (Option Heard) StepFault
told (Err fault) heard = Err fault
told (Ok done) (Err fault) = Err faults.NoMemory
told (Ok done) (Ok heard) = Ok (Some heard)

-- the process that its entries have brought there, by the answer; Halted says that the machine has stopped
abbrev pub IsAsTold : Type 0 → ProcessState → Result (Option Heard) StepFault → ProcessState → Type 0
IsAsTold Halted there (Ok (Some heard)) d = d ≡ there
IsAsTold Halted there (Ok None) d = there.status ≡ Ended
IsAsTold Halted there (Err faults.Stopped) d = Halted
IsAsTold Halted there (Err faults.NoMemory) d = Unit {0}

-- each call that is noted as stopped is what the process asks there, after the entries before it
abbrev pub NotedFrom : ProcessState → List Item → Type 0
NotedFrom d [] = Unit {0}
NotedFrom d (Entered e ∷ items) = NotedFrom (absorbed d e.reply) items
NotedFrom d (Stopped process event ∷ items) = (event_of d ≡ Some event) × NotedFrom d items

-- the items of a process went on by what it asks, and it went on by the replies
pub record Went (Halted : Type 0) (d : ProcessState) (items : List Item) (answer : Result (Option Heard) StepFault) (d' : ProcessState) (items' : List Item) : Type 0 where
  pub added : List Item
  pub by_program : RanFrom d (entries_in added)
  pub noted : NotedFrom d added
  pub now : items' ≡ items ++ added
  pub stands : IsAsTold Halted (process_after d (entries_in added)) answer d'
