-- What it is to use a right on an object, and that a history never does.
use Rattle.std.specs.Prelude.{◌≡◌, ◌≢◌, ◌⊎◌, ℕ, All, List, [], ◌∷◌, Some, length, slice_get, ◌+◌}
use Rattle.std.specs.Int.{bit_at}
use Rattle.std.specs.List.{Any, Contains}
use Rattle.s38_base.specs.Pointers.{object_of}
use Rattle.s38_code.specs.declared.entry.Entry.{Entry}
use Rattle.s38_code.specs.declared.event.Event.{Event}
use Rattle.s38_code.specs.declared.event.Event.TheVariants.{Start, Act, Finish}
use Rattle.s38_code.specs.declared.event.Request.{Request}
use Rattle.s38_code.specs.declared.operand.Operand.{Operand}
use Rattle.s38_code.specs.declared.operand.Operand.TheVariants as operands
use Rattle.s38_code.specs.declared.reply.Reply.{Reply}
use Rattle.s38_code.specs.declared.reply.Reply.TheVariants.{Done, Signal, MustWait}
use Rattle.s38_code.specs.History.{entries_of}
use Rattle.s38_process.specs.Process.{ProcessState}
use Rattle.s38_process.specs.AfterReply.{RanFrom, process_after}
use Rattle.s38_rules.specs.declared.need.Claim.TheVariants.{Available, Granting, Ownership}
use Rattle.s38_rules.specs.declared.need.Claim.{Claim}
use Rattle.s38_rules.specs.declared.need.Need.{Need}
use Rattle.s38_rules.specs.state.Headers.{rows_in}
use Rattle.s38_rules.specs.state.Held.{Held, object}
use Rattle.s38_rules.specs.state.PrivateRows.{AreRows}
use Rattle.s38_rules.specs.families.Rows.{row}
use Rattle.s38_rules.specs.state.State.{State}
use Rattle.s38_rules.specs.step.Step.{step}
use Rattle.s38_rules.specs.ask.Users.{acting}
use Rattle.s38_rules.specs.ask.RightsRules.{subject}
use Rattle.s38_laws_confinement.specs.NoWay.{NoWay, NoWayIn, space_right}

-- ---- using a right

-- a claim is one on the right: to use it, to give or take it, or to give the object away
abbrev pub ClaimsRight : Claim → ℕ → ℕ → Type 0
ClaimsRight Available r given = bit_at given r ≡ 1
ClaimsRight Granting r given = bit_at given r ≡ 1
ClaimsRight Ownership r given = Unit {0}

-- a need speaks of the object, and claims the right
pub record Claims (h : Held) (ops : List Operand) (o r : ℕ) (need : Need) : Type 0 where
  pub object : subject h ops need.place need.named ≡ o
  pub right : ClaimsRight need.claim r need.rights.0

-- an operand lies in the object
abbrev pub LiesIn : ℕ → Operand → Type 0
LiesIn o (operands.InSpace (Some base) offset attr) = object_of base ≡ o
LiesIn o _ = ⊥

-- an instruction that took effect used the right: by a need, or by an operand that lies in the object
abbrev pub Uses : State → ℕ → ℕ → Request → ℕ → ℕ → Type 0
Uses s p d request o r =
    Any (Claims s.held request.operands o r) ((row request.op).needs s p d request)
    ⊎ ((r ≡ space_right) × Any (LiesIn o) request.operands)

abbrev pub UsesBy : State → ℕ → Event → ℕ → ℕ → Type 0
UsesBy s p (Act depth request) o r = Uses s p depth request o r
UsesBy s p Start o r = ⊥
UsesBy s p (Finish cause) o r = ⊥

abbrev pub Exercises : State → Entry → Reply → ℕ → ℕ → Type 0
Exercises s e (Done vs) o r = UsesBy s e.process e.event o r
Exercises s e (Signal x) o r = ⊥
Exercises s e MustWait o r = ⊥

-- ---- over a history

-- every acting user is one of these
abbrev pub ActsWithin : List ℕ → State → ℕ → Event → Type 0
ActsWithin users s p (Act depth request) = All (λ user. Contains users user) (acting s p depth)
ActsWithin users s p Start = Unit {0}
ActsWithin users s p (Finish cause) = Unit {0}

abbrev pub AllWithin : List ℕ → State → List Entry → Type 0
AllWithin users s [] = Unit {0}
AllWithin users s (e ∷ es) = ActsWithin users s e.process e.event × AllWithin users (step s e.process e.event).state es

-- no entry uses the right
abbrev pub NeverUsed : State → List Entry → ℕ → ℕ → Type 0
NeverUsed s [] o r = Unit {0}
NeverUsed s (e ∷ es) o r = (Exercises s e e.reply o r → ⊥) × NeverUsed (step s e.process e.event).state es o r

-- the processes run so, each of its place
pub record AreRun (processes : List ProcessState) (history : List Entry) : Type 0 where
  pub each : (k : ℕ) (d : ProcessState) → slice_get processes k ≡ Some d → RanFrom d (entries_of (k + 1) history)

-- at the beginning no way is open, among the objects and in the variables of every process
pub record BeginsClosed (processes : List ProcessState) (first : State) (users : List ℕ) (o r : ℕ) : Type 0 where
  -- the processes are those of the machine
  pub count : length processes ≡ length first.processes
  -- 0 is the number of no object
  pub number : o ≢ 0
  pub objects : NoWay first.held users o r
  -- the object's private rows rise by user
  pub rows : AreRows (rows_in (object first.held o))
  pub variables : (k : ℕ) (d : ProcessState) → slice_get processes k ≡ Some d → NoWayIn o r d

-- after these entries no way is open, among the objects of the state and in the variables of every process
pub record IsClosedAfter (processes : List ProcessState) (before : List Entry) (s : State) (users : List ℕ) (o r : ℕ) : Type 0 where
  -- the processes are those of the machine
  pub count : length processes ≡ length s.processes
  -- 0 is the number of no object
  pub number : o ≢ 0
  pub objects : NoWay s.held users o r
  -- the object's private rows rise by user
  pub rows : AreRows (rows_in (object s.held o))
  pub variables : (k : ℕ) (d : ProcessState) → slice_get processes k ≡ Some d → NoWayIn o r (process_after d (entries_of (k + 1) before))

-- nor is there a way after it, among the objects and in the variables of every process
pub record StaysClosed (processes : List ProcessState) (history : List Entry) (end : State) (users : List ℕ) (o r : ℕ) : Type 0 where
  pub objects : NoWay end.held users o r
  pub variables : (k : ℕ) (d : ProcessState) → slice_get processes k ≡ Some d → NoWayIn o r (process_after d (entries_of (k + 1) history))
