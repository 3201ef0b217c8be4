-- Confinement from any moment on: where no way to a right is open for users after some entries of a run, and they
-- alone act from there on, the right is never used, and no way is open at the end.
use Rattle.std.specs.Prelude.{◌≡◌, ◌≢◌, ℕ, ◌+◌, List, [], ◌∷◌, ◌++◌, Some, slice_get}
use Rattle.s38_code.specs.declared.entry.Entry.{Entry}
use Rattle.s38_code.specs.History.{entries_of}
use Rattle.s38_laws_confinement.specs.Confined.{AllWithin, NeverUsed, StaysClosed}
use Rattle.s38_laws_confinement.specs.NoWay.{NoWay, NoWayIn}
use Rattle.s38_process.specs.Process.{ProcessState}
use Rattle.s38_process.specs.AfterReply.{process_after}
use Rattle.s38_rules.specs.state.State.{State}
use Rattle.s38_rules.specs.step.Step.{step}
use Rattle.s38_rules.specs.step.Histories.{state_after}

-- after some entries users have no way to a right on an object, among the objects and in the variables of every process
pub record HaveNoWay (processes : List ProcessState) (first : State) (before : List Entry) (users : List ℕ) (o r : ℕ) : Type 0 where
  pub objects : NoWay (state_after first before).held users o r
  pub variables : (k : ℕ) (d : ProcessState) → slice_get processes k ≡ Some d → NoWayIn o r (process_after d (entries_of (k + 1) before))

-- wherever a history is parted: if users have no way there, and they alone act from there on, they never use the right from
-- there on, and have no way at the end
abbrev pub IsConfinedFromAny : List ProcessState → State → List Entry → State → Type 0
IsConfinedFromAny processes first history end =
    (before after : List Entry) (users : List ℕ) (o r : ℕ) → history ≡ before ++ after → o ≢ 0 → HaveNoWay processes first before users o r
    → AllWithin users (state_after first before) after
    → NeverUsed (state_after first before) after o r × StaysClosed processes history end users o r
