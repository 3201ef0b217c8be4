-- Whether an event may take effect: the first rule that fails is signalled. Address rules come first, then a needed
-- special authority, rights, locks, and the conditions and limits of the instruction.
use Rattle.std.specs.Prelude.{ℕ, ◌+◌, ◌==◌, Bool, true, false, ◌&&◌, List, [], ◌∷◌, min, Option, Some, None, if◌then◌else◌}
use Rattle.s38_base.specs.declared.exception.Exception.{Exception}
use Rattle.s38_base.specs.declared.id.Id.{Id}
use Rattle.s38_base.specs.declared.id.Kind.TheVariants as kinds
use Rattle.s38_base.specs.declared.id.ObjNum.{ObjNum}
use Rattle.s38_base.specs.declared.op.Op.{Op}
use Rattle.s38_base.specs.declared.op.Op.TheVariants.{Lock, Deq}
use Rattle.s38_base.specs.declared.words.Category.{Category}
use Rattle.s38_base.specs.Exceptions as exceptions
use Rattle.s38_base.specs.Limits.{last_operand, machine_context}
use Rattle.s38_base.specs.Signals.{fails, first, plain}
use Rattle.s38_locks.specs.Table.{Table}
use Rattle.s38_code.specs.declared.deck.Job.{Job}
use Rattle.s38_code.specs.declared.event.Event.{Event}
use Rattle.s38_code.specs.declared.event.Event.TheVariants.{Start, Act, Finish}
use Rattle.s38_code.specs.declared.event.Request.{Request}
use Rattle.s38_code.specs.declared.operand.Operand.{Operand}
use Rattle.s38_rules.specs.declared.need.Need.{Need}
use Rattle.s38_rules.specs.declared.process.ProcessEntry.{ProcessEntry}
use Rattle.s38_rules.specs.declared.verdict.Verdict.{Verdict}
use Rattle.s38_rules.specs.declared.verdict.Verdict.TheVariants.{Permit, Wait, Refuse}
use Rattle.s38_rules.specs.ask.Authority.{lacks_special}
use Rattle.s38_rules.specs.ask.Blocking.{item_lock, use_rule}
use Rattle.s38_rules.specs.state.Held.{Held, number_found}
use Rattle.s38_rules.specs.families.Instruction.{Instruction}
use Rattle.s38_rules.specs.ask.Operands.{word_at}
use Rattle.s38_rules.specs.families.Rows.{row}
use Rattle.s38_rules.specs.state.State.{State, is_early, is_last_ready, process_entry}
use Rattle.s38_rules.specs.ask.Users.{acting}
use Rattle.s38_rules.specs.ask.AddressRules.{address_rules, by_operand}
use Rattle.s38_rules.specs.ask.RightsRules.{subject, rights_rules}

-- ---- locks: an operand in a space reads or changes the space, before what the instruction does to an object

abbrev pub category_rule : Table → ℕ → ℕ → ℕ → Option Category → Option Exception
category_rule locks p operand n None = None
category_rule locks p operand n (Some category) = use_rule locks p operand n category

unfoldable pub lock_rule : State → ℕ → List Operand → Need → Option Exception
lock_rule s p ops need = category_rule s.locks p need.place (subject s.held ops need.place need.named) need.category

unfoldable pub lock_rules : State → ℕ → Request → List Need → Option Exception
lock_rules s p r wanted = by_operand (item_lock s.locks p r.op) (lock_rule s p r.operands) wanted 1 r.operands

-- ---- an instruction

-- the special authority comes after the addresses, and before rights and ownership
abbrev pub refused_with : Instruction → State → ℕ → ℕ → Request → List Need → Option Exception
refused_with i s p d r wanted =
    first (address_rules s.held r.operands wanted)
    (first (lacks_special s.held (acting s p d) (i.special s p d r))
    (first (rights_rules s p d r.operands wanted)
    (first (lock_rules s p r wanted)
    (i.fails s p d r))))

-- the first rule that an instruction fails
unfoldable pub refused_by : Instruction → State → ℕ → ℕ → Request → Option Exception
refused_by i s p d r = refused_with i s p d r (i.needs s p d r)

-- ---- events

abbrev pub of_failure : Option Exception → Verdict
of_failure None = Permit
of_failure (Some x) = Refuse x

-- the operand is WAIT
abbrev pub says_wait : List Operand → ℕ → Bool
says_wait ops k = word_at ops k == 1

-- a lock that is not granted, and a message that is not there, may be waited for
unfoldable pub may_wait : Op → List Operand → ℕ → Bool
may_wait Lock ops id = (id == exceptions.lock_not_grantable) && says_wait ops 3
may_wait Deq ops id = (id == exceptions.no_message) && says_wait ops 5
may_wait op ops id = false

-- the last process that is ready doesn't wait: nobody could wake it
abbrev pub unless_last : Bool → Verdict
unless_last true = Refuse (plain exceptions.all_wait 0)
unless_last false = Wait

abbrev pub of_exception : State → ℕ → Request → Exception → Verdict
of_exception s p r x = if may_wait r.op r.operands x.id then unless_last (is_last_ready s p) else Refuse x

-- what becomes of a request that fails so
unfoldable pub of_request : State → ℕ → Request → Option Exception → Verdict
of_request s p r None = Permit
of_request s p r (Some x) = of_exception s p r x

abbrev pub profile_id : List ℕ → Id
profile_id name = record { kind = kinds.Profile; sub = 0; name = name }

abbrev pub context_id : List ℕ → Id
context_id name = record { kind = kinds.Context; sub = 0; name = name }

-- an object of the machine context is not there
abbrev pub absent : Option ObjNum → ℕ → Option Exception
absent None operand = Some (plain exceptions.object_not_found operand)
absent (Some n) operand = None

-- the first context of a job's list that is not there
abbrev pub absent_context : Held → List (List ℕ) → ℕ → Option Exception
absent_context h [] operand = None
absent_context h (name ∷ names) operand =
    first (absent (number_found h machine_context (context_id name)) (min operand last_operand)) (absent_context h names (operand + 1))

-- a start finds the profile of the job's user (operand 1), and the contexts of its list (from operand 2 on)
unfoldable pub start_failure : Held → Job → Option Exception
start_failure h job = first (absent (number_found h machine_context (profile_id job.user)) 1) (absent_context h job.contexts 2)

abbrev pub start_verdict : State → ℕ → Option ProcessEntry → Verdict
start_verdict s p None = Permit
start_verdict s p (Some x) = if is_early s.processes x.job.stage then Wait else of_failure (start_failure s.held x.job)

-- a start waits for the earlier stages; an instruction is refused by the first rule that fails, or waits; an end never
unfoldable pub ruled_verdict : State → ℕ → Event → Verdict
ruled_verdict s p Start = start_verdict s p (process_entry s p)
ruled_verdict s p (Act depth request) = of_request s p request (refused_by (row request.op) s p depth request)
ruled_verdict s p (Finish cause) = Permit
