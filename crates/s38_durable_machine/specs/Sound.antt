-- What holds of a machine over a vault at all times: its history is legal, the vault represents what is durable after
-- the entries that were answered, and a crash at any moment leaves what is durable after the entries that were answered
-- by then.
use Rattle.std.specs.Prelude.{◌≡◌, ◌↔◌, ◌≤◌, ℕ, length, true, is_some}
use Rattle.s38_base.specs.Faults.{Rose}
use Rattle.s38_laws_units.specs.Right.{IsRight}
use Rattle.s38_durable_state.specs.Durable.{Durable, durable}
use Rattle.s38_durable_state.specs.Represents.{Represents}
use Rattle.s38_laws_images.specs.form.Forms.{HasForms}
use Rattle.s38_laws_flush.specs.durable.Crashes.{IsKeptPrefix}
use Rattle.s38_laws_flush.specs.durable.Kept.{AreImages, AreNumbered, HasParts, IsKeptOf}
use Rattle.s38_laws_objects.specs.Well.{AreWell}
use Rattle.s38_laws_flush.specs.puts.OnePut.{BodiesAreShort}
use Rattle.s38_laws_flush.specs.puts.Trails.{IsTrailOf}
use Rattle.s38_laws_recovery.specs.Restartable.{AllImages, IsRestartable}
use Rattle.s38_laws_recovery.specs.Restarts.{IsRestartedPrefix}
use Rattle.s38_rules.specs.step.Legal.{IsSound, Run}
use Rattle.s38_rules.specs.state.State.{State}
use Rattle.s38_laws_state.specs.Order.{AreInOrder}
use Rattle.s38_flush.specs.Stepping.{HaveHeaders}
use Rattle.s38_vault.specs.Content.{Content}
use Rattle.s38_vault.specs.Vaults.{VaultView, most_changes}
use Rattle.s38_durable_machine.specs.Seen.{StoredView, run_of}
use Rattle.s38_durable_machine.specs.declared.ending.Ending.{Ending}
use Rattle.s38_durable_machine.specs.declared.ending.Ending.TheVariants.{Going, Stopped, Wanting}

-- ---- states

-- a store has room, each object can be kept and read again and is in order, and each change that is not committed can be
-- taken back
pub record CanBeStored (s : State) : Type 0 where
  pub room : is_some s.room ≡ true
  pub well : AreWell s
  pub right : IsRight s
  pub numbered : AreNumbered s.held
  pub ordered : AreInOrder s
  pub forms : HasForms s

-- ---- what is held

-- the content represents what is durable, which goes with a state, can be read again, and has no body that is too long;
-- of each journal space a beginning is kept; and what is durable can restart
pub record IsOf (m : Content) (d : Durable) (s : State) : Type 0 where
  pub stands : Represents m d
  pub headers : HaveHeaders d
  pub short : BodiesAreShort d
  pub kept : IsKeptOf s d
  pub trail : IsTrailOf s d
  pub images : AreImages d
  pub restartable : IsRestartable s d

-- ---- a run over a vault

-- the vault tells what it holds, and that represents what is durable
pub record HoldsOf {V : Type 0} (holds : V → Content → Type 0) (v : V) (d : Durable) : Type 0 where
  pub content : Content
  pub held : holds v content
  pub stands : Represents content d
  pub headers : HaveHeaders d

-- while the machine goes on
abbrev pub HoldsWhile : {V : Type 0} → (V → Content → Type 0) → Ending → V → Durable → Type 0
HoldsWhile holds Going v d = HoldsOf holds v d
HoldsWhile holds Stopped v d = Unit {0}
HoldsWhile holds Wanting v d = Unit {0}

-- of a run that began as this was durable
pub record IsKeptFrom {V : Type 0} (view : V → VaultView) (holds : V → Content → Type 0) (leaves : V → ℕ → Content → Type 0) (x : StoredView V) (d : Durable) : Type 0 where
  -- while it goes on, the vault holds what is durable after the history
  pub now : HoldsWhile holds x.ending x.vault (durable d x.machine.origin x.machine.history)
  -- and no body that is too long
  pub short : BodiesAreShort (durable d x.machine.origin x.machine.history)
  -- what is durable can be read again at each moment, also after a call that failed
  pub images : AllImages d x.machine.origin x.machine.history
  -- what a crash leaves at each moment of the run, where a put takes as many changes as a store's: what is durable
  -- after the entries that were answered by then, or after one entry more, of which at least the ceiling may be there
  pub crash : (view x.first).shape.most ≡ most_changes → (t : ℕ) (n : Content) → (view x.first).moment ≤ t → t ≤ (view x.vault).moment → leaves x.vault t n
      → IsKeptPrefix d x.machine.origin x.machine.history (run_of x).marks t n
  -- to which it restarts without a fault, where its parts are of 32 bits
  pub restarts : (view x.first).shape.most ≡ most_changes → (t : ℕ) (n : Content) → (view x.first).moment ≤ t → t ≤ (view x.vault).moment → leaves x.vault t n
      → HasParts n → IsRestartedPrefix d x.machine.origin x.machine.history (run_of x).marks t n

-- while it goes on, the machine is at the moment of its vault, which did not fail; where it stopped, the vault failed, and
-- the entry of the call that failed is there
abbrev pub EndsWithVault : Ending → Run → VaultView → VaultView → Type 0
EndsWithVault Going m first now = (m.moment ≡ now.moment) × (now.faults ≡ first.faults)
EndsWithVault Stopped m first now = Rose first.faults now.faults × (1 ≤ length m.history)
EndsWithVault Wanting m first now = Unit {0}

pub record IsSoundOver {V : Type 0} (view : V → VaultView) (holds : V → Content → Type 0) (leaves : V → ℕ → Content → Type 0) (x : StoredView V) : Type 0 where
  pub sound : IsSound x.machine
  pub origin : CanBeStored x.machine.origin
  pub state : CanBeStored x.machine.state
  pub first : x.machine.first ≡ (view x.first).moment
  pub moment : x.machine.moment ≤ (view x.vault).moment
  pub ending : EndsWithVault x.ending x.machine (view x.first) (view x.vault)
  pub shape : (view x.vault).shape ≡ (view x.first).shape
  -- a crash now leaves what is held
  pub present : (m n : Content) → holds x.vault m → leaves x.vault (view x.vault).moment n → n ≡ m
  -- what a crash may leave at moments before the run is as it was
  pub past : (t : ℕ) (m : Content) → t ≤ (view x.first).moment → leaves x.first t m ↔ leaves x.vault t m
  pub kept : (m : Content) (d : Durable) → holds x.first m → IsOf m d x.machine.origin → IsKeptFrom view holds leaves x d
