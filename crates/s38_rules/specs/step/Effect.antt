-- What a permitted event does: the new state, and the values that come back.
use Rattle.std.specs.Prelude.{ℕ, true, List, [], ◌∷◌, map, Option, Some, None}
use Rattle.std.specs.Option.{unwrap_or}
use Rattle.s38_base.specs.declared.id.Id.{Id}
use Rattle.s38_base.specs.declared.id.ObjNum.{ObjNum}
use Rattle.s38_base.specs.Limits.{machine_context}
use Rattle.s38_locks.specs.Table.{released}
use Rattle.s38_code.specs.declared.deck.Job.{Job}
use Rattle.s38_code.specs.declared.event.Event.{Event}
use Rattle.s38_code.specs.declared.event.Event.TheVariants.{Start, Act, Finish}
use Rattle.s38_code.specs.declared.event.Request.{Request}
use Rattle.s38_rules.specs.declared.process.ProcessEntry.{ProcessEntry}
use Rattle.s38_rules.specs.declared.process.Started.{Started}
use Rattle.s38_rules.specs.families.Changes.{done}
use Rattle.s38_rules.specs.families.Computing.{receiver_at, shift_at}
use Rattle.s38_rules.specs.state.Held.{Held, number_found}
use Rattle.s38_rules.specs.families.Instruction.{Instruction}
use Rattle.s38_rules.specs.ask.Receivers.{Done, delivered}
use Rattle.s38_rules.specs.families.Rows.{row}
use Rattle.s38_rules.specs.state.State.{State, process_entry, set_process}
use Rattle.s38_rules.specs.families.Units.{all_decommitted}
use Rattle.s38_rules.specs.step.Verdict.{context_id, profile_id}

-- the value is that of the state before the change, and goes to its receiver after it
unfoldable pub effect : Instruction → State → ℕ → ℕ → Request → Done
effect i s p d r =
    delivered (done s p (i.changes s p d r)) (shift_at s.held r.op r.operands) (receiver_at r.op r.operands) (i.gives s p d r)

-- ---- start and end

-- the object of the machine context that has an identification, 0 for none
abbrev pub in_machine : Held → Id → ObjNum
in_machine h id = unwrap_or (number_found h machine_context id) (record { 0 = 0 })

-- the numbers of the contexts of a list, by name
abbrev pub numbers_of : Held → List (List ℕ) → List ObjNum
numbers_of h names = map (λ name. in_machine h (context_id name)) names

abbrev pub started_as : Held → Job → Started
started_as h job = record { user = in_machine h (profile_id job.user); contexts = numbers_of h job.contexts; stack = record { 0 = 0 } ∷ [] }

-- a started process has its user, the contexts of its list as they are found now, and the job's own template
-- as its one program
abbrev pub start_at : State → ℕ → Option ProcessEntry → State
start_at s process None = s
start_at s process (Some x) = set_process s process (record x { started = Some (started_as s.held x.job) })

-- a process holds no lock any more
abbrev pub unlocked : State → ℕ → State
unlocked s process = record s { locks = released process s.locks }

-- a process that has no unit has ended, and holds no lock any more
abbrev pub ended_at : State → ℕ → Option ProcessEntry → State
ended_at s process None = s
ended_at s process (Some x) = set_process (unlocked s process) process (record x { ended = true })

-- a process has ended: its units were taken back, in order of the numbers of their commit blocks, and it holds no lock
abbrev pub end_at : State → ℕ → Option ProcessEntry → State
end_at s process None = s
end_at s process (Some x) = ended_at (all_decommitted s process s.units) process (Some x)

unfoldable pub effect_of : State → ℕ → Event → Done
effect_of s process Start = record { state = start_at s process (process_entry s process); values = [] }
effect_of s process (Act depth request) = effect (row request.op) s process depth request
effect_of s process (Finish cause) = record { state = end_at s process (process_entry s process); values = [] }
