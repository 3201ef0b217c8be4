-- What is said of an answer of a machine over a vault, also where it goes no more.
use Rattle.std.specs.Prelude.{◌≡◌, ◌≤◌, ℕ, List, Result, IfOk, IfSome, IsErrOf, OnErr, OnOk}
use Rattle.s38_code.specs.History.{first_stop}
use Rattle.s38_code.specs.declared.entry.Entry.{Entry}
use Rattle.s38_code.specs.declared.event.Event.{Event}
use Rattle.s38_code.specs.declared.reply.Reply.{Reply}
use Rattle.s38_code.specs.declared.step.StepFault.{StepFault}
use Rattle.s38_code.specs.declared.step.StepFault.TheVariants as faults
use Rattle.s38_rules.specs.step.Legal.{IsProcess, after}
use Rattle.s38_rules.specs.step.Step.{step}
use Rattle.s38_vault.specs.Content.{Content}
use Rattle.s38_vault.specs.Vaults.{VaultView}
use Rattle.s38_durable_machine.specs.Seen.{StoredBeginning, StoredView, beginning_of, run_of, stopped_of}
use Rattle.s38_durable_machine.specs.Sound.{IsSoundOver}

-- a process of a job may ask
abbrev pub MayAskOver : {V : Type 0} → StoredBeginning V → ℕ → Event → List Entry → Type 0
MayAskOver beginning p e entries = IsProcess beginning.state p

-- an answer is that of one step of the run
pub record IsStoredStep {V : Type 0} (old : StoredView V) (p : ℕ) (e : Event) (answer : Result Reply StepFault) (new : StoredView V) : Type 0 where
  pub reply : IfOk answer (λ r. (step (run_of old).state p e).reply ≡ r)
  pub moved : OnOk answer (run_of new ≡ after (run_of old) (run_of new).moment p e)
  pub later : OnOk answer ((run_of old).moment ≤ (run_of new).moment)

-- the same where the answer is of another kind, and what is said of the machine after it
pub record IsAskedOver {V A : Type 0} (view : V → VaultView) (holds : V → Content → Type 0) (leaves : V → ℕ → Content → Type 0) (old new : StoredView V) (p : ℕ) (e : Event) (replies : A → Reply → Type 0) (answer : Result A StepFault) : Type 0 where
  pub sound : IsSoundOver view holds leaves new
  pub origin : beginning_of new ≡ beginning_of old
  pub moved : OnOk answer (run_of new ≡ after (run_of old) (run_of new).moment p e)
  pub later : OnOk answer ((run_of old).moment ≤ (run_of new).moment)
  pub reply : IfOk answer (λ a. replies a (step (run_of old).state p e).reply)
  pub history : OnErr answer ((run_of new).history ≡ (run_of old).history)
  pub stopped : IsErrOf answer faults.Stopped → stopped_of new ≡ first_stop (stopped_of old) p e
  pub goes : OnOk answer (stopped_of new ≡ stopped_of old)
  pub refused : IsErrOf answer faults.NoMemory → stopped_of new ≡ stopped_of old
  pub over : IfSome (stopped_of old) (λ _. IsErrOf answer faults.Stopped)
