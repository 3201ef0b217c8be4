-- Locks: granted, given up, handed on to another job, listed.
use Rattle.std.specs.Prelude.{ℕ, ◌+◌, ◌==◌, Bool, false, not, ◌&&◌, List, [], ◌∷◌, ◌++◌, length, min, position, Option, Some, None, is_some, if◌then◌else◌}
use Rattle.std.specs.List.{flat_map}
use Rattle.std.specs.Str.{bytes_eq}
use Rattle.s38_base.specs.declared.exception.Exception.{Exception}
use Rattle.s38_base.specs.declared.exception.Rule.TheVariants.{Held}
use Rattle.s38_base.specs.declared.op.Op.{Op}
use Rattle.s38_base.specs.declared.op.Op.TheVariants.{Lock, Unlock, Xfrlock, Matobjlk}
use Rattle.s38_base.specs.declared.words.LockState.{LockState}
use Rattle.s38_base.specs.declared.words.LockState.TheVariants.{Lsrd, Lsro, Lsup, Lear, Lenr}
use Rattle.s38_base.specs.Exceptions as exceptions
use Rattle.s38_base.specs.RightNames as rights
use Rattle.s38_base.specs.Signals.{fails, first, plain}
use Rattle.s38_locks.specs.declared.fault.LockFault.{LockFault}
use Rattle.s38_locks.specs.declared.fault.LockFault.TheVariants as faults
use Rattle.s38_locks.specs.Locks as locks
use Rattle.s38_locks.specs.Refusals.{lock_refusal, transfer_refusal, unlock_refusal}
use Rattle.s38_locks.specs.States.{rank}
use Rattle.s38_locks.specs.Table.{locks_of}
use Rattle.s38_code.specs.declared.operand.Operand.{Operand}
use Rattle.s38_code.specs.declared.operand.Operand.TheVariants as operands
use Rattle.s38_code.specs.declared.reply.Val.{Val}
use Rattle.s38_code.specs.declared.reply.Val.TheVariants as vals
use Rattle.s38_rules.specs.declared.need.Need.{Need}
use Rattle.s38_rules.specs.declared.need.Sought.TheVariants.{Any}
use Rattle.s38_rules.specs.declared.process.ProcessEntry.{ProcessEntry}
use Rattle.s38_rules.specs.families.Changes.{Changes, Locked}
use Rattle.s38_rules.specs.families.Instruction.{Instruction, inert}
use Rattle.s38_rules.specs.ask.Needs.{on_object}
use Rattle.s38_rules.specs.ask.Operands.{place, room_at, target, word_at}
use Rattle.s38_rules.specs.ask.Receivers.{count_image, fitted}
use Rattle.s38_rules.specs.state.State.{State, process_entry}

-- ---- what the operands say

-- the lock state of a word's number
abbrev pub lock_state_of : ℕ → LockState
lock_state_of word =
    if word == 0 then Lsrd else (if word == 1 then Lsro else (if word == 2 then Lsup else (if word == 3 then Lear else Lenr)))

-- operand 2 is the state
abbrev pub state_asked : List Operand → LockState
state_asked ops = lock_state_of (word_at ops 2)

-- the locks of the object that the pointer at a place names
abbrev pub locks_at : State → List Operand → ℕ → List locks.Lock
locks_at s ops k = locks_of s.locks (target s.held ops k)

-- why the table of locks refuses, about operand 1
abbrev pub of_lock_fault : Option LockFault → Option Exception
of_lock_fault None = None
of_lock_fault (Some (faults.NotGrantable holder state)) = Some (record { id = exceptions.lock_not_grantable; operand = 1; rule = Held holder state })
of_lock_fault (Some faults.Limit) = Some (plain exceptions.limit_exceeded 1)
of_lock_fault (Some faults.NotHeld) = Some (plain exceptions.lock_not_held 1)
of_lock_fault (Some faults.NoMemory) = None

-- ---- LOCK

-- who is to share an object with other readers reads it, and who keeps others from it may change it
abbrev pub lock_right : LockState → ℕ
lock_right Lsrd = rights.retrieve
lock_right Lsro = rights.retrieve
lock_right _ = rights.update

unfoldable pub lock_needs : List Operand → List Need
lock_needs ops = on_object 1 Any (lock_right (state_asked ops)) None

-- no lock of another process is in the way, and the object may have one more
unfoldable pub lock_fails : State → ℕ → List Operand → Option Exception
lock_fails s p ops = of_lock_fault (lock_refusal p (state_asked ops) (locks_at s ops 1))

abbrev pub lock_changes : State → ℕ → List Operand → Changes
lock_changes s p ops = Locked (target s.held ops 1) (locks.with_lock (p, state_asked ops) (locks_at s ops 1))

abbrev pub lock : Instruction
lock = record inert {
  needs = λ s p d r. lock_needs r.operands;
  fails = λ s p d r. lock_fails s p r.operands;
  changes = λ s p d r. lock_changes s p r.operands;
}

-- ---- UNLOCK

-- who holds a lock gives it up without a right
unfoldable pub unlock_needs : List Need
unlock_needs = on_object 1 Any rights.no_rights None

unfoldable pub unlock_fails : State → ℕ → List Operand → Option Exception
unlock_fails s p ops = of_lock_fault (unlock_refusal p (state_asked ops) (locks_at s ops 1))

abbrev pub unlock_changes : State → ℕ → List Operand → Changes
unlock_changes s p ops = Locked (target s.held ops 1) (locks.without_lock (p, state_asked ops) (locks_at s ops 1))

abbrev pub unlock : Instruction
unlock = record inert {
  needs = λ s p d r. unlock_needs;
  fails = λ s p d r. unlock_fails s p r.operands;
  changes = λ s p d r. unlock_changes s p r.operands;
}

-- ---- XFRLOCK

abbrev pub is_job_named : List ℕ → ProcessEntry → Bool
is_job_named name x = bytes_eq x.job.name name

-- the number of the process at a place; it ends at 32 bits
abbrev pub process_number_of : Option ℕ → ℕ
process_number_of None = 0
process_number_of (Some k) = min (k + 1) 4294967295

-- the process of the job of a name, 0 for none
abbrev pub process_named : List ProcessEntry → Option Operand → ℕ
process_named xs (Some (operands.Text name)) = process_number_of (position (is_job_named name) xs)
process_named xs _ = 0

-- the process of the job that operand 3 names
abbrev pub taker : State → List Operand → ℕ
taker s ops = process_named s.processes (place ops 3)

abbrev pub is_going_in : Option ProcessEntry → Bool
is_going_in None = false
is_going_in (Some x) = is_some x.started && not x.ended

-- another process, which has started and has not ended
abbrev pub may_take : State → ℕ → ℕ → Bool
may_take s p q = not (q == p) && (not (q == 0) && is_going_in (process_entry s q))

unfoldable pub xfrlock_fails : State → ℕ → List Operand → Option Exception
xfrlock_fails s p ops =
    first (of_lock_fault (unlock_refusal p (state_asked ops) (locks_at s ops 1)))
    (first (fails (not (may_take s p (taker s ops))) exceptions.process_not_found 3)
    (of_lock_fault (transfer_refusal p (taker s ops) (state_asked ops) (locks_at s ops 1))))

abbrev pub xfrlock_changes : State → ℕ → List Operand → Changes
xfrlock_changes s p ops =
    Locked (target s.held ops 1) (locks.with_lock (taker s ops, state_asked ops) (locks.without_lock (p, state_asked ops) (locks_at s ops 1)))

abbrev pub xfrlock : Instruction
xfrlock = record inert {
  needs = λ s p d r. unlock_needs;
  fails = λ s p d r. xfrlock_fails s p r.operands;
  changes = λ s p d r. xfrlock_changes s p r.operands;
}

-- ---- MATOBJLK

unfoldable pub matobjlk_needs : List Need
matobjlk_needs = on_object 2 Any rights.retrieve None

-- a process in four bytes, and the place of the state among the states
abbrev pub lock_image : locks.Lock → List ℕ
lock_image held = count_image held.0 ++ rank held.1 ∷ []

abbrev pub locks_image : List locks.Lock → List ℕ
locks_image held = count_image (length held) ++ flat_map lock_image held

-- the number of the object's locks, and each in order of process and state
unfoldable pub matobjlk_bytes : State → List Operand → List ℕ
matobjlk_bytes s ops = fitted (room_at ops 1) 0 (locks_image (locks_at s ops 2))

abbrev pub matobjlk_gives : State → List Operand → Val
matobjlk_gives s ops = vals.Bytes (matobjlk_bytes s ops)

abbrev pub matobjlk : Instruction
matobjlk = record inert {
  needs = λ s p d r. matobjlk_needs;
  gives = λ s p d r. Some (matobjlk_gives s r.operands);
}

-- ---- the family

unfoldable pub locks_row : Op → Instruction
locks_row Lock = lock
locks_row Unlock = unlock
locks_row Xfrlock = xfrlock
locks_row Matobjlk = matobjlk
locks_row _ = inert
