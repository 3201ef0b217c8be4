-- What making a queue has met, and what changing one keeps.
use Rattle.std.proofs.Common.{◌≡◌, ℕ, List, None, sym, subst}
use Rattle.std.specs.Prelude.{Option, Result, Ok, Err, OnOk, OnErr}
use Rattle.s38_base.specs.declared.fault.NoMemory.{NoMemory}
use Rattle.s38_base.specs.declared.exception.Exception.{Exception}
use Rattle.s38_code.specs.declared.operand.Operand.{Operand}
use Rattle.s38_rules.specs.families.Creation.{creation_fails}
use Rattle.s38_rules.specs.state.Held.{Held}
use Rattle.s38_profiles.specs.ProfileMaps.{ProfileMaps}
use Rattle.s38_queues.specs.MessageQueue.{MessageQueue}
use Rattle.s38_rules.specs.state.Kept.{Mirrors}
use Rattle.s38_rules.specs.state.PartsAt.{on_queue}
use Rattle.s38_changes.proofs.KeptLaws.{queue_kept}
use Rattle.s38_rules.specs.families.Queues.{created_queue, crtq_fails}
use Rattle.s38_rules.specs.state.State.{State}
use Rattle.s38_rules.specs.ask.Users.{user_of}

-- a queue that may be made meets the rules of creation
pub crtq_created : (s : State) (p : ℕ) (ops : List Operand) → crtq_fails s p ops ≡ None
    → (own : Option Exception) × (creation_fails s.held (user_of s p) (created_queue s.held ops) own ≡ None)
unfolding crtq_fails
crtq_created s p ops h = (None, h)

-- a queue that changes, or stays where memory is refused, changes nothing that is kept of users
pub queue_left : (maps : ProfileMaps) (h new : Held) (n : ℕ) (f : MessageQueue → MessageQueue) (r : Result (Unit {0}) NoMemory) → OnOk r (new ≡ on_queue h n f) → OnErr r (new ≡ h) → Mirrors maps h → Mirrors maps new
queue_left maps h new n f (Ok x) ok err m = subst (λ (k : Held). Mirrors maps k) (sym ok) (queue_kept maps h n f m)
queue_left maps h new n f (Err e) ok err m = subst (λ (k : Held). Mirrors maps k) (sym err) m
