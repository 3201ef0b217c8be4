-- The locks that an instruction leaves are in order.
use Rattle.std.proofs.Common.{◌<◌, ◌≤◌, ◌+◌, ◌∙◌, ◌∷◌, ◌≡◌, Bool, List, [], ap, arith, cond, false, length, refl, subst, suc, sym, true, ℕ}
use Rattle.std.proofs.lemmas.Bool.Decides.{nat_tests}
use Rattle.std.proofs.lemmas.Bool.{cond_both, true≢false}
use Rattle.std.proofs.lemmas.List.Edits.{length-remove}
use Rattle.std.specs.List.{Contains}
use Rattle.std.specs.Prelude.{None, Option, Some, is_some, nat_le, nat_lt, position}
use Rattle.std.specs.List.{position_or_len}
use Rattle.s38_base.specs.Exceptions as exceptions
use Rattle.s38_base.specs.Limits.{most_rows}
use Rattle.s38_base.specs.Pointers.{object_of, target_of}
use Rattle.s38_base.specs.Signals.{fails}
use Rattle.s38_base.specs.declared.op.Op.TheVariants.{Lock as LockOp, Unlock, Xfrlock}
use Rattle.s38_base.specs.declared.op.Op.{Op}
use Rattle.s38_base.specs.declared.pointer.Pointer.{Pointer}
use Rattle.s38_code.specs.declared.event.Request.{Request}
use Rattle.s38_code.specs.declared.operand.Operand.{Operand}
use Rattle.s38_laws_confinement.proofs.RightLaws.{permitted, used_parts}
use Rattle.s38_locks.proofs.OrderLaws.{orderly_with, orderly_without, removed_at}
use Rattle.s38_locks.specs.Locks.{Lock, comes_later, hindrance, is_held, is_same, with_lock, without_lock}
use Rattle.s38_locks.specs.Refusals.{in_the_way}
use Rattle.s38_locks.specs.declared.fault.LockFault.TheVariants as faults
use Rattle.s38_locks.specs.declared.fault.LockFault.{LockFault}
use Rattle.s38_rules.proofs.RuleLaws.{first_none}
use Rattle.s38_rules.proofs.VerdictLaws.{rule_met}
use Rattle.s38_rules.specs.state.Held.{object}
use Rattle.s38_rules.specs.families.Instruction.{Instruction}
use Rattle.s38_rules.specs.families.Locking.{lock, lock_fails, lock_needs, lock_right, locks_at, locks_row, of_lock_fault, state_asked, taker, unlock, unlock_needs, xfrlock, xfrlock_fails}
use Rattle.s38_rules.specs.ask.Operands.{pointer_at, target}
use Rattle.s38_rules.specs.state.State.{State}
use Rattle.s38_rules.specs.step.Verdict.{refused_by}
use Rattle.s38_rules.specs.ask.AddressRules.{is_looked_at, object_rule}
use Rattle.s38_rules.specs.declared.need.Claim.TheVariants.{Available}
use Rattle.s38_rules.specs.declared.need.Named.TheVariants.{Written}
use Rattle.s38_rules.specs.declared.need.Need.{Need}
use Rattle.s38_rules.specs.declared.need.PointerKind.TheVariants as pointer_kinds
use Rattle.s38_rules.specs.declared.need.Sought.TheVariants.{Any}
use Rattle.s38_rules.specs.declared.object.Object.{Object}
use Rattle.s38_laws_state.proofs.HeadLaws.{there_given}
use Rattle.s38_laws_state.proofs.FitRowLaws.{FitsIn, IsUsed}
use Rattle.s38_laws_state.proofs.RowLaws.{May as LocksMay}
use Rattle.s38_laws_state.proofs.OrderLaws.{LocksWell, Fit, few_there, orderly_there}

with_length : (l : Lock) (ls : List Lock) → length (with_lock l ls) ≡ length ls + 1
with_length l [] = refl
with_length l (other ∷ ls) =
    cond_both (comes_later l other) (l ∷ other ∷ ls) (other ∷ with_lock l ls) (λ (new : List Lock). length new ≡ suc (length ls) + 1) (λ here. omega arith) (λ later. omega (arith, with_length l ls))

without_less : (l : Lock) (ls : List Lock) → length (without_lock l ls) ≤ length ls
without_less l [] = omega arith
without_less l (other ∷ ls) =
    cond_both (is_same l other) ls (other ∷ without_lock l ls) (λ (new : List Lock). length new ≤ suc (length ls)) (λ own. omega arith) (λ other. omega (arith, without_less l ls))

-- one that is held makes one less
without_held : (l : Lock) (ls : List Lock) → is_held l ls ≡ true → length (without_lock l ls) + 1 ≡ length ls
without_held l ls held = by (position (is_same l) ls) refl held
  where
    same : (n i : ℕ) → Some n ≡ Some i → n ≡ i
    same n i g = cc

    below : (n m i : ℕ) (b : Bool) → nat_lt n m ≡ b → cond b (Some n) None ≡ Some i → i < m
    below n m i true is e = subst (λ (k : ℕ). k < m) (same n i e) (grind (arith, nat_tests, is))
    below n m i false is e = absurd (none e)
      where
        none : None ≡ Some i → ⊥
        none g = cc

    by : (r : Option ℕ) → position (is_same l) ls ≡ r → is_some r ≡ true → length (without_lock l ls) + 1 ≡ length ls
    by None at some = absurd (true≢false (sym some))
    by (Some i) at some = ap (λ (new : List Lock). length new + 1) (sym (removed_at l ls i at)) ∙ length-remove ls i (below (position_or_len (is_same l) ls) (length ls) i _ refl at)

-- a pointer names an object that is there, where its need asks any
named_there : (i : Instruction) (s : State) (p d : ℕ) (t : Request) (need : Need) → FitsIn s s.held → refused_by i s p d t ≡ None → Contains (i.needs s p d t) need → need.place ≡ 1 → need.named ≡ Written → need.sought ≡ Any
    → target s.held t.operands 1 < s.held.next
named_there i s p d t need fits met there place named sought = by (pointer_at s.held t.operands 1) refl
  where
    seen : (x : Option Object) → object_rule need x ≡ None → (y : Object) × (x ≡ Some y)
    seen None h = absurd (none (subst (λ k. fails (is_looked_at k) exceptions.object_destroyed need.place ≡ None) sought h))
      where
        none : fails true exceptions.object_destroyed need.place ≡ None → ⊥
        none g = cc
    seen (Some y) h = (y, refl)

    by : (x : Option Pointer) → pointer_at s.held t.operands 1 ≡ x → target_of x < s.held.next
    by None is = fits.next
    by (Some used) is =
        let parts = used_parts i s p d t need 0 used (permitted i s p d t met) there place (omega arith) named is in
        let one = seen (object s.held (object_of used)) parts.1 in
        there_given (IsUsed s.processes) s.held fits (object_of used) (ap is_some one.1)

abbrev locked_need : ℕ → Need
locked_need r = record { place = 1; named = Written; pointer = pointer_kinds.System; sought = Any; rights = record { 0 = r }; claim = Available; category = None }

lock_there : (ops : List Operand) → Contains (lock_needs ops) (locked_need (lock_right (state_asked ops)))
unfolding lock_needs
lock_there ops = (0, omega arith, refl)

unlock_there : Contains unlock_needs (locked_need 0)
unfolding unlock_needs
unlock_there = (0, omega arith, refl)

-- where no lock is in the way, a request is not refused for one
free_way : (r : Option Lock) (later : Option LockFault) → of_lock_fault (in_the_way r later) ≡ None → r ≡ None
free_way None later h = refl
free_way (Some x) later h = cc

-- nor is one refused that makes too many
one_more : (r : Option Lock) (n : ℕ) → of_lock_fault (in_the_way r (cond (nat_le most_rows n) (Some faults.Limit) None)) ≡ None → n + 1 ≤ most_rows
one_more (Some x) n h = absurd (none h)
  where
    none : of_lock_fault (Some (faults.NotGrantable x.0 x.1)) ≡ None → ⊥
    none g = cc
one_more None n h = by (nat_le most_rows n) refl h
  where
    by : (b : Bool) → nat_le most_rows n ≡ b → of_lock_fault (cond b (Some faults.Limit) None) ≡ None → n + 1 ≤ most_rows
    by true is g = absurd (none g)
      where
        none : of_lock_fault (Some faults.Limit) ≡ None → ⊥
        none i = cc
    by false is g = grind (arith, nat_tests, is)

pub locks_order : (op : Op) (s : State) (p d : ℕ) (t : Request) → FitsIn s s.held → LocksWell s.held.next s.locks → refused_by (locks_row op) s p d t ≡ None → LocksMay (Fit s.held.next) s p ((locks_row op).changes s p d t)
unfolding locks_row lock_fails xfrlock_fails
locks_order LockOp s p d t fits well e =
    let asked : Lock = (p, state_asked t.operands) in
    let met = rule_met lock s p d t e in
    record {
      given = named_there lock s p d t (locked_need (lock_right (state_asked t.operands))) fits e (lock_there t.operands) refl refl refl;
      orderly = orderly_with asked (locks_at s t.operands 1) (free_way (hindrance p (state_asked t.operands) (locks_at s t.operands 1)) _ met)
          (orderly_there s.held.next s.locks (target s.held t.operands 1) well);
      most = omega (arith, with_length asked (locks_at s t.operands 1), one_more (hindrance p (state_asked t.operands) (locks_at s t.operands 1)) (length (locks_at s t.operands 1)) met);
    }
locks_order Unlock s p d t fits well e =
    let asked : Lock = (p, state_asked t.operands) in
    record {
      given = named_there unlock s p d t (locked_need 0) fits e unlock_there refl refl refl;
      orderly = orderly_without asked (locks_at s t.operands 1) (orderly_there s.held.next s.locks (target s.held t.operands 1) well);
      most = omega (arith, without_less asked (locks_at s t.operands 1), few_there s.held.next s.locks (target s.held t.operands 1) well);
    }
locks_order Xfrlock s p d t fits well e =
    let mine : Lock = (p, state_asked t.operands) in
    let theirs : Lock = (taker s t.operands, state_asked t.operands) in
    let held = locks_at s t.operands 1 in
    let rest = orderly_without mine held (orderly_there s.held.next s.locks (target s.held t.operands 1) well) in
    let one = first_none (of_lock_fault _) _ (rule_met xfrlock s p d t e) in
    let two = first_none _ _ one.1 in
    record {
      given = named_there xfrlock s p d t (locked_need 0) fits e unlock_there refl refl refl;
      orderly = orderly_with theirs (without_lock mine held) (by (is_held mine held) two.1) rest;
      most = as_many _ _ _ (with_length theirs (without_lock mine held)) (without_held mine held (there (is_held mine held) two.1)) (few_there s.held.next s.locks (target s.held t.operands 1) well);
    }
  where
    by : (b : Bool) → of_lock_fault (cond b (in_the_way (hindrance (taker s t.operands) (state_asked t.operands) (without_lock (p, state_asked t.operands) (locks_at s t.operands 1))) None) (Some faults.NotHeld)) ≡ None
        → hindrance (taker s t.operands) (state_asked t.operands) (without_lock (p, state_asked t.operands) (locks_at s t.operands 1)) ≡ None
    by true h = free_way _ None h
    by false h = cc

    as_many : (new less old : ℕ) → new ≡ less + 1 → less + 1 ≡ old → old ≤ most_rows → new ≤ most_rows
    as_many new less old more held few = omega (arith, more, held, few)

    there : (b : Bool) → of_lock_fault (cond b (in_the_way (hindrance (taker s t.operands) (state_asked t.operands) (without_lock (p, state_asked t.operands) (locks_at s t.operands 1))) None) (Some faults.NotHeld)) ≡ None → b ≡ true
    there true h = refl
    there false h = cc
locks_order _ s p d t fits well e = tt
