-- From where runs begin: each object has a number that was given, each program was checked, and no process has started.
use Rattle.std.specs.Prelude.{◌≡◌, ◌<◌, ◌≤◌, ℕ, ◌+◌, All, List, Option, Some, None, slice_get}
use Rattle.s38_code.specs.declared.deck.Job.{Job}
use Rattle.s38_code.specs.declared.entry.Entry.{Entry}
use Rattle.s38_code.specs.declared.made.CheckedTemplate.{CheckedTemplate}
use Rattle.s38_code.specs.declared.made.CreateResult.{CreateResult}
use Rattle.s38_code.specs.declared.program.Program.{Program}
use Rattle.s38_code.specs.History.{entries_of}
use Rattle.s38_odt.specs.Suited.{AreSuited}
use Rattle.s38_process.specs.Invocations.{instructions_in, program_rows_in}
use Rattle.s38_process.specs.Process.{ProcessState, fresh}
use Rattle.s38_process.specs.AfterReply.{RanFrom}
use Rattle.s38_rules.specs.declared.object.Object.{Object}
use Rattle.s38_rules.specs.state.Held.{Held}
use Rattle.s38_rules.specs.state.Opening.{state_of}
use Rattle.s38_rules.specs.families.Calls.{code_of}
use Rattle.s38_rules.specs.store.Room.{Room}
use Rattle.s38_rules.specs.state.State.{State, started}

-- the state in which the jobs of a deck find a machine of these objects; over a store, its room too
abbrev pub state_over : Option Room → Held → List CheckedTemplate → List Job → State
state_over room held templates jobs = record (state_of held templates jobs) { room = room }

-- the instructions of a program suit its declarations; a template that was refused has none
abbrev pub IsChecked : CreateResult → Type 0
IsChecked made = AreSuited (program_rows_in made) (instructions_in made)

-- an object that is a program is a checked one
abbrev pub HoldsChecked : Object → Type 0
HoldsChecked o = (program : Program) → code_of o.body ≡ Some program → AreSuited program.rows program.code

-- numbers are those that were given, 0 is the number of no object, and programs are checked
pub record IsSoundStart (h : Held) : Type 0 where
  pub given : All (λ o. o.number.0 < h.next) h.objects
  pub numbered : All (λ o. 1 ≤ o.number.0) h.objects
  pub next : 1 ≤ h.next
  pub programs : All HoldsChecked h.objects

abbrev pub AreChecked : List CheckedTemplate → Type 0
AreChecked templates = All (λ t. IsChecked t.made) templates

-- a process that has not started
pub record IsFresh (d : ProcessState) : Type 0 where
  pub made : CreateResult
  pub budget : ℕ
  pub is : d ≡ fresh made budget
  pub checked : IsChecked made

-- the processes are before their first events, and so is the machine
pub record Begin (processes : List ProcessState) (first : State) : Type 0 where
  pub objects : IsSoundStart first.held
  pub templates : AreChecked first.templates
  pub unstarted : (p : ℕ) → started first p ≡ None
  pub fresh : (k : ℕ) (d : ProcessState) → slice_get processes k ≡ Some d → IsFresh d

-- the entries of each process are what it asks, one after another
pub record AreAsked (processes : List ProcessState) (history : List Entry) : Type 0 where
  pub each : (k : ℕ) (d : ProcessState) → slice_get processes k ≡ Some d → RanFrom d (entries_of (k + 1) history)
