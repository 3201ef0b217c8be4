-- The locks that an instruction leaves, which no rule refuses, are of processes that are alive: row by row.
use Rattle.std.proofs.Common.{◌<◌, ◌==◌, ◌≡◌, ◌&&◌, Bool, List, arith, false, not, refl, subst, true, ℕ}
use Rattle.std.proofs.lemmas.Bool.Decides.{nat_tests}
use Rattle.std.specs.Prelude.{All, None}
use Rattle.s38_base.specs.Exceptions as exceptions
use Rattle.s38_base.specs.declared.op.Op.TheVariants.{Crtctx, Crtds, Crtinx, Crtjs, Crtpg, Crtq, Crts, Crtup, Grant, Insdsen, Jrnlobj, Lock, Rslvsp, Unlock, Xfrlock}
use Rattle.s38_base.specs.declared.op.Op.{Op}
use Rattle.s38_code.specs.declared.event.Request.{Request}
use Rattle.s38_code.specs.declared.family.Family.TheVariants as families
use Rattle.s38_code.specs.declared.family.Family.{Family}
use Rattle.s38_code.specs.declared.operand.Operand.{Operand}
use Rattle.s38_locks.specs.Locks as locks
use Rattle.s38_rules.proofs.RuleLaws.{fails_none, first_none, not_false}
use Rattle.s38_rules.proofs.VerdictLaws.{rule_met}
use Rattle.s38_rules.specs.families.Changes.{Changes, Locked, Then, done}
use Rattle.s38_rules.specs.families.Contexts.{contexts_row}
use Rattle.s38_rules.specs.families.DataSpaces.{data_spaces_row}
use Rattle.s38_rules.specs.families.Grants.{grants_row}
use Rattle.s38_rules.specs.families.Indexes.{indexes_row}
use Rattle.s38_rules.specs.families.Instruction.{Instruction}
use Rattle.s38_rules.specs.families.Journals.{journals_row}
use Rattle.s38_rules.specs.families.Locking.{locks_at, locks_row, may_take, of_lock_fault, state_asked, taker, xfrlock, xfrlock_fails}
use Rattle.s38_rules.specs.ask.Operands.{target}
use Rattle.s38_rules.specs.families.Profiles.{profiles_row}
use Rattle.s38_rules.specs.families.Programs.{programs_row}
use Rattle.s38_rules.specs.families.Queues.{queues_row}
use Rattle.s38_rules.specs.families.Resolving.{resolving_row}
use Rattle.s38_rules.specs.families.Rows.{row_in as instruction_in}
use Rattle.s38_rules.specs.families.Spaces.{spaces_row}
use Rattle.s38_rules.specs.state.State.{State}
use Rattle.s38_rules.specs.step.Verdict.{refused_by}
use Rattle.s38_rules.specs.declared.process.ProcessEntry.{ProcessEntry}
use Rattle.s38_laws_state.proofs.TableLaws.{found_held, with_held, without_held}
use Rattle.s38_laws_state.specs.Live.{IsAlive, IsLive}

-- what a change must meet for locks to stay as they should be: those of most words nothing
abbrev pub May : (ℕ → List locks.Lock → Type 0) → State → ℕ → Changes → Type 0
May Q s p (Locked n held) = Q n held
May Q s p (Then a b) = May Q s p a × May Q (done s p a) p b
May Q s p _ = Unit {0}

-- ---- most families lock nothing

module _ (Q : ℕ → List locks.Lock → Type 0) where
  abbrev IsUnlocking : Instruction → Type 0
  IsUnlocking i = (s : State) (p d : ℕ) (t : Request) → May Q s p (i.changes s p d t)

  resolving_unlocking : (op : Op) → IsUnlocking (resolving_row op)
  unfolding resolving_row
  resolving_unlocking Rslvsp = λ s p d t. tt
  resolving_unlocking _ = λ s p d t. tt

  contexts_unlocking : (op : Op) → IsUnlocking (contexts_row op)
  unfolding contexts_row
  contexts_unlocking Crtctx = λ s p d t. tt
  contexts_unlocking _ = λ s p d t. tt

  profiles_unlocking : (op : Op) → IsUnlocking (profiles_row op)
  unfolding profiles_row
  profiles_unlocking Crtup = λ s p d t. tt
  profiles_unlocking _ = λ s p d t. tt

  grants_unlocking : (op : Op) → IsUnlocking (grants_row op)
  unfolding grants_row
  grants_unlocking Grant = λ s p d t. tt
  grants_unlocking _ = λ s p d t. tt

  programs_unlocking : (op : Op) → IsUnlocking (programs_row op)
  unfolding programs_row
  programs_unlocking Crtpg = λ s p d t. tt
  programs_unlocking _ = λ s p d t. tt

  spaces_unlocking : (op : Op) → IsUnlocking (spaces_row op)
  unfolding spaces_row
  spaces_unlocking Crts = λ s p d t. tt
  spaces_unlocking _ = λ s p d t. tt

  queues_unlocking : (op : Op) → IsUnlocking (queues_row op)
  unfolding queues_row
  queues_unlocking Crtq = λ s p d t. tt
  queues_unlocking _ = λ s p d t. tt

  indexes_unlocking : (op : Op) → IsUnlocking (indexes_row op)
  unfolding indexes_row
  indexes_unlocking Crtinx = λ s p d t. tt
  indexes_unlocking _ = λ s p d t. tt

  data_spaces_unlocking : (op : Op) → IsUnlocking (data_spaces_row op)
  unfolding data_spaces_row
  data_spaces_unlocking Crtds = λ s p d t. tt
  data_spaces_unlocking Insdsen = λ s p d t. (tt, tt)
  data_spaces_unlocking _ = λ s p d t. tt

  journals_unlocking : (op : Op) → IsUnlocking (journals_row op)
  unfolding journals_row
  journals_unlocking Crtjs = λ s p d t. tt
  journals_unlocking Jrnlobj = λ s p d t. (tt, tt)
  journals_unlocking _ = λ s p d t. tt

  -- an instruction changes locks as those of its family do
  pub row_may : (f : Family) (op : Op) (s : State) (p d : ℕ) (t : Request) → (f ≡ families.Locks → May Q s p ((locks_row op).changes s p d t)) → May Q s p ((instruction_in f op).changes s p d t)
  unfolding instruction_in
  row_may families.Locks op s p d t own = own refl
  row_may families.Resolving op s p d t own = resolving_unlocking op s p d t
  row_may families.Contexts op s p d t own = contexts_unlocking op s p d t
  row_may families.Profiles op s p d t own = profiles_unlocking op s p d t
  row_may families.Grants op s p d t own = grants_unlocking op s p d t
  row_may families.Programs op s p d t own = programs_unlocking op s p d t
  row_may families.Spaces op s p d t own = spaces_unlocking op s p d t
  row_may families.Queues op s p d t own = queues_unlocking op s p d t
  row_may families.Indexes op s p d t own = indexes_unlocking op s p d t
  row_may families.DataSpaces op s p d t own = data_spaces_unlocking op s p d t
  row_may families.Journals op s p d t own = journals_unlocking op s p d t
  row_may families.Computing op s p d t own = tt
  row_may _ op s p d t own = tt

-- ---- locks of processes that are alive

-- locks are of processes that are alive
abbrev pub AllAlive : List ProcessEntry → ℕ → List locks.Lock → Type 0
AllAlive processes n held = All (λ lock. IsAlive processes lock.0) held

abbrev OfAlive : List ProcessEntry → locks.Lock → Type 0
OfAlive processes lock = IsAlive processes lock.0

held_there : (s : State) (ops : List Operand) → IsLive s → All (OfAlive s.processes) (locks_at s ops 1)
held_there s ops live = found_held (OfAlive s.processes) s.locks (target s.held ops 1) live.locks

taker_alive : (s : State) (p q : ℕ) → may_take s p q ≡ true → IsAlive s.processes q
taker_alive s p q h = record { first = above q (two (not (q == p)) (not (q == 0)) _ h).0; going = (two (not (q == p)) (not (q == 0)) _ h).1 }
  where
    two : (a b c : Bool) → (a && (b && c)) ≡ true → (b ≡ true) × (c ≡ true)
    two true true c g = (refl, g)
    two true false c g = cc
    two false b c g = cc

    above : (n : ℕ) → not (n == 0) ≡ true → 0 < n
    above n g = grind (arith, nat_tests)

xfrlock_alive : (s : State) (p d : ℕ) (t : Request) → IsLive s → refused_by xfrlock s p d t ≡ None → May (AllAlive s.processes) s p (xfrlock.changes s p d t)
unfolding xfrlock_fails
xfrlock_alive s p d t live e =
    let met = first_none (of_lock_fault _) _ (rule_met xfrlock s p d t e) in
    let takes = not_false _ (fails_none (not (may_take s p (taker s t.operands))) exceptions.process_not_found 3 (first_none _ _ met.1).0) in
    with_held (OfAlive s.processes) (taker s t.operands, state_asked t.operands) _ (taker_alive s p (taker s t.operands) takes)
    (without_held (OfAlive s.processes) (p, state_asked t.operands) (locks_at s t.operands 1) (held_there s t.operands live))

pub locks_alive : (op : Op) (s : State) (p d : ℕ) (t : Request) → IsLive s → IsAlive s.processes p → refused_by (locks_row op) s p d t ≡ None → May (AllAlive s.processes) s p ((locks_row op).changes s p d t)
unfolding locks_row
locks_alive Lock s p d t live alive e = with_held (OfAlive s.processes) (p, state_asked t.operands) (locks_at s t.operands 1) alive (held_there s t.operands live)
locks_alive Unlock s p d t live alive e = without_held (OfAlive s.processes) (p, state_asked t.operands) (locks_at s t.operands 1) (held_there s t.operands live)
locks_alive Xfrlock s p d t live alive e = xfrlock_alive s p d t live e
locks_alive _ s p d t live alive e = tt

-- an instruction that is not refused is so as one of its family
pub in_family : (f : Family) (op : Op) (s : State) (p d : ℕ) (t : Request) → f ≡ families.Locks → refused_by (instruction_in f op) s p d t ≡ None → refused_by (locks_row op) s p d t ≡ None
unfolding instruction_in
in_family f op s p d t is e = subst (λ g. refused_by (instruction_in g op) s p d t ≡ None) is e
