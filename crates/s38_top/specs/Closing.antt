-- The laws of the checkpoint at the end of a run over a store, and of what a crash leaves of it.
use Rattle.std.specs.Prelude.{◌≡◌, ◌≤◌, ◌++◌, ℕ, All, List}
use Rattle.s38_laws_checkpoint.specs.puts.Ending.{IsClosedTo, IsEnding, IsShort}
use Rattle.s38_checkpoint.specs.Closing.{closing}
use Rattle.s38_checkpoint.specs.Ensuring.{IsLeft}
use Rattle.s38_code.specs.declared.entry.Entry.{Entry}
use Rattle.s38_durable_state.specs.Durable.{Durable, closed, durable}
use Rattle.s38_durable_state.specs.Represents.{Represents}
use Rattle.s38_laws_flush.specs.durable.Kept.{AreImages, HasParts, IsKeptOf}
use Rattle.s38_laws_flush.specs.puts.OnePut.{BodiesAreShort}
use Rattle.s38_laws_flush.specs.puts.Trails.{IsTrailOf}
use Rattle.s38_laws_recovery.specs.Restartable.{AreAnswered, IsRestartable}
use Rattle.s38_laws_recovery.specs.Restarts.{IsRestartedAfter, RestartsTo, next_number_after, next_restarted}
use Rattle.s38_rules.specs.step.Legal.{Leads}
use Rattle.s38_rules.specs.state.State.{State}
use Rattle.s38_rules.specs.declared.object.Object.{Object}
use Rattle.s38_laws_state.specs.Order.{AreInOrder}
use Rattle.s38_vault.specs.Content.{Content}
use Rattle.s38_vault.specs.Directory.{NameObjects, keys_of}
use Rattle.s38_vault.specs.Vaults.{most_changes}

pub record ClosingLaws : Type 0 where
  -- what is durable goes with the state at the end of a history, and of each journal space a beginning is kept
  pub kept : (s : State) (before history : List Entry) (end : State) (d : Durable) → Leads s before history end → IsKeptOf s d → IsKeptOf end (durable d s history)
  pub trail : (s : State) (before history : List Entry) (end : State) (d : Durable) → Leads s before history end → IsKeptOf s d → IsTrailOf s d → IsTrailOf end (durable d s history)
  -- a crash during the checkpoint leaves what is durable once the first objects were ensured
  pub left : (s : State) (d : Durable) (m n : Content) → IsEnding s d → Represents m d → NameObjects (keys_of n) → IsLeft most_changes m (closing s.units s.held) s.held n → IsClosedTo s d n
  -- where no body is too long, none is that is kept
  pub short : (s : State) → All IsShort s.held.objects → BodiesAreShort (closing s.units s.held)

pub record RestartLaws : Type 0 where
  -- what a state needs, so that what is durable can restart, is so at the end of a history
  pub restartable : (s : State) (before history : List Entry) (end : State) (d : Durable) → Leads s before history end → IsKeptOf s d → IsTrailOf s d → IsRestartable s d
      → IsRestartable end (durable d s history)
  -- the replies of a history are those of the machine
  pub replies : (s : State) (before history : List Entry) (end : State) → Leads s before history end → AreAnswered s history
  -- no number that was given after the first so many entries is given again
  pub numbers : (m : Content) (d : Durable) (s : State) (entries : List Entry) (count : ℕ) → IsKeptOf s d → IsTrailOf s d → IsRestartable s d → AreAnswered s entries → IsRestartedAfter d s entries count m
      → next_number_after s entries count ≤ next_restarted m
  -- what is durable once the first objects were ensured is what a store that represents it restarts to, and no number
  -- is given again
  pub closed_to : (s : State) (d : Durable) (gone rest : List Object) (m : Content) → IsKeptOf s d → IsTrailOf s d → AreInOrder s → IsRestartable s d → AreImages d → AreImages (closing s.units s.held)
      → s.held.objects ≡ gone ++ rest → HasParts m → Represents m (closed d s gone) → RestartsTo m (closed d s gone)
  pub closed_numbers : (s : State) (d : Durable) (gone rest : List Object) (m : Content) → IsKeptOf s d → s.held.objects ≡ gone ++ rest → RestartsTo m (closed d s gone) → s.held.next ≤ next_restarted m
