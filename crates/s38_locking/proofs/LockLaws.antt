-- What an instruction of locks that does not fail has met.
use Rattle.std.proofs.Common.{◌≡◌, ℕ, Bool, true, false, List, None, Some, refl, cond}
use Rattle.std.specs.Prelude.{Option}
use Rattle.s38_locks.specs.declared.fault.LockFault.TheVariants as faults
use Rattle.s38_locks.specs.Locks.{Lock, hindrance, is_held, without_lock}
use Rattle.s38_locks.specs.Refusals.{in_the_way, transfer_refusal, unlock_refusal}
use Rattle.s38_code.specs.declared.operand.Operand.{Operand}
use Rattle.s38_rules.specs.families.Locking.{locks_at, of_lock_fault, state_asked, taker, unlock_fails, xfrlock_fails}
use Rattle.s38_rules.specs.state.State.{State}
use Rattle.s38_rules.proofs.RuleLaws.{first_none}

unlock_by : (b : Bool) → of_lock_fault (cond b None (Some faults.NotHeld)) ≡ None → cond b None (Some faults.NotHeld) ≡ None
unlock_by true h = refl
unlock_by false h = cc

-- the lock is held
pub unlock_met : (s : State) (p : ℕ) (ops : List Operand) → unlock_fails s p ops ≡ None → unlock_refusal p (state_asked ops) (locks_at s ops 1) ≡ None
unfolding unlock_fails
unlock_met s p ops h = unlock_by (is_held (p, state_asked ops) (locks_at s ops 1)) h

way_by : (o : Option Lock) → of_lock_fault (in_the_way o None) ≡ None → in_the_way o None ≡ None
way_by None h = refl
way_by (Some lock) h = cc

transfer_by : (b : Bool) (o : Option Lock) → of_lock_fault (cond b (in_the_way o None) (Some faults.NotHeld)) ≡ None → cond b (in_the_way o None) (Some faults.NotHeld) ≡ None
transfer_by true o h = way_by o h
transfer_by false o h = cc

-- the lock is held, and no other is in the way
pub xfrlock_met : (s : State) (p : ℕ) (ops : List Operand) → xfrlock_fails s p ops ≡ None → transfer_refusal p (taker s ops) (state_asked ops) (locks_at s ops 1) ≡ None
unfolding xfrlock_fails
xfrlock_met s p ops h =
    transfer_by (is_held (p, state_asked ops) (locks_at s ops 1)) (hindrance (taker s ops) (state_asked ops) (without_lock (p, state_asked ops) (locks_at s ops 1)))
    (first_none _ _ (first_none _ _ h).1).1
