-- What becomes of a step that a vault is to keep.
use Rattle.std.specs.FinMap.{get}
use Rattle.std.specs.Prelude.{◌≡◌, ◌↔◌, ◌<◌, ◌≤◌, ℕ, List, [], ◌∷◌, length, Result, Ok, Err, Some, true}
use Rattle.s38_base.specs.Faults.{Rose}
use Rattle.s38_code.specs.declared.asked.Asked.{Asked}
use Rattle.s38_code.specs.declared.step.StepFault.{StepFault}
use Rattle.s38_code.specs.declared.step.StepFault.TheVariants as faults
use Rattle.s38_commits.specs.Units.{UnitMap}
use Rattle.s38_durable_state.specs.Durable.{Durable, durable_after}
use Rattle.s38_laws_flush.specs.durable.Crashes.{RepresentsBetween}
use Rattle.s38_machine.specs.Stored.{stamped}
use Rattle.s38_laws_objects.specs.Outline.{is_forced}
use Rattle.s38_laws_images.specs.readable.Readable.{IsAgain}
use Rattle.s38_rules.specs.store.Forcing.{Forced}
use Rattle.s38_rules.specs.state.Held.{Held, object}
use Rattle.s38_rules.specs.step.Legal.{Run}
use Rattle.s38_rules.specs.state.State.{State}
use Rattle.s38_rules.specs.declared.object.Object.{Object}
use Rattle.s38_flush.specs.Numbers.{numbered}
use Rattle.s38_flush.specs.Leftovers.{first_changes}
use Rattle.s38_flush.specs.Stepping.{HaveHeaders, IsDue, Precedes, object_changes, put_forced}
use Rattle.s38_page_diff.specs.declared.fault.FlushFault.{FlushFault}
use Rattle.s38_page_diff.specs.declared.fault.FlushFault.TheVariants as fails
use Rattle.s38_vault.specs.Content.{Content}
use Rattle.s38_vault.specs.Vaults.{VaultView}
use Rattle.s38_durable_machine.specs.Seen.{StoredView}
use Rattle.s38_durable_machine.specs.Sound.{HoldsOf}
use Rattle.s38_durable_machine.specs.declared.ending.Ending.{Ending}
use Rattle.s38_durable_machine.specs.declared.ending.Ending.TheVariants.{Going, Stopped, Wanting}

-- whether the machine goes on, by whether the step was kept
abbrev pub ending_of : Result (Unit {0}) FlushFault → Ending
ending_of (Ok done) = Going
ending_of (Err fails.Failed) = Stopped
ending_of (Err (fails.Full needed free)) = Wanting
ending_of (Err (fails.BadHeader object)) = Wanting
ending_of (Err fails.NoMemory) = Wanting

-- from a content on, no more parts of objects differ than one put takes, orphan pages apart
abbrev pub FitsOnePut : ℕ → Content → List Forced → Durable → Type 0
FitsOnePut most m all d = length (first_changes most d (object_changes all (get m) d)) ≤ most

-- a vault keeps what a step forces that led to these objects and units, or does not
pub record KeepsStep {V : Type 0} (view : V → VaultView) (holds : V → Content → Type 0) (leaves : V → ℕ → Content → Type 0) (old new : V) (h : Held) (us : UnitMap) (all : List Forced) (ending : Ending) : Type 0 where
  -- each object of which something that is forced speaks is read again
  pub again : (n : ℕ) (o : Object) → is_forced n all ≡ true → object h n ≡ Some o → IsAgain o
  -- where it does, it holds what is durable after the step
  pub kept : ending ≡ Going → (m : Content) (d : Durable) (s : State) → holds old m → Precedes h us m d s → IsDue all d s → HoldsOf holds new (durable_after all d s)
  -- and that is what it held, with what differs of the ceiling and of the objects put into it
  pub put : ending ≡ Going → (m : Content) (d : Durable) (s : State) → holds old m → Precedes h us m d s → holds new (put_forced all m (durable_after all d s))
  -- it held one content
  pub one : (m n : Content) → holds old m → holds old n → m ≡ n
  -- a crash leaves what was durable before the step, or that with the ceiling, or what is durable after it
  pub during : (m : Content) (d : Durable) (s : State) → holds old m → Precedes h us m d s → IsDue all d s
      → (HaveHeaders (durable_after all d s) → FitsOnePut (view old).shape.most m all (durable_after all d s))
      → (t : ℕ) (n : Content) → (view old).moment < t → t ≤ (view new).moment → leaves new t n → RepresentsBetween n d s (durable_after all d s)
  pub present : (m n : Content) → holds new m → leaves new (view new).moment n → n ≡ m
  pub past : (t : ℕ) (m : Content) → t ≤ (view old).moment → leaves old t m ↔ leaves new t m
  pub later : (view old).moment ≤ (view new).moment
  pub shape : (view new).shape ≡ (view old).shape
  pub failed : ending ≡ Stopped → Rose (view old).faults (view new).faults
  pub count : ending ≡ Going → (view new).faults ≡ (view old).faults

-- ---- the machine after it

-- where the step was kept, the last entry was answered at the moment of the vault
abbrev pub machine_by : Ending → ℕ → Run → Run
machine_by Going moment m = stamped moment m
machine_by Stopped moment m = m
machine_by Wanting moment m = m

abbrev pub stored_after : {V : Type 0} → Ending → ℕ → V → StoredView V → StoredView V
stored_after ending moment vault x = record { machine = machine_by ending moment x.machine; vault = vault; first = x.first; ending = ending }

abbrev pub answer_by : Ending → Asked → Result Asked StepFault
answer_by Going asked = Ok asked
answer_by Stopped asked = Err faults.Stopped
answer_by Wanting asked = Err faults.NoMemory

-- what the machine did was kept
pub record IsKeptAfter {V : Type 0} (view : V → VaultView) (holds : V → Content → Type 0) (leaves : V → ℕ → Content → Type 0) (old new : StoredView V) (all : List Forced) (asked : Asked) (answer : Result Asked StepFault) : Type 0 where
  pub keeps : KeepsStep view holds leaves old.vault new.vault old.machine.state.held old.machine.state.units (numbered all) new.ending
  pub is : new ≡ stored_after new.ending (view new.vault).moment new.vault old
  pub answered : answer ≡ answer_by new.ending asked

-- where there is something to keep
abbrev pub IsFlushed : {V : Type 0} → (V → VaultView) → (V → Content → Type 0) → (V → ℕ → Content → Type 0) → StoredView V → StoredView V → List Forced → Asked → Result Asked StepFault → Type 0
IsFlushed view holds leaves old new [] asked answer = (new ≡ old) × (answer ≡ Ok asked)
IsFlushed view holds leaves old new (one ∷ more) asked answer = IsKeptAfter view holds leaves old new (one ∷ more) asked answer
