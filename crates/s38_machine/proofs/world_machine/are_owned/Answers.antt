use Rattle.std.proofs.Common.{ap, subst}
use Rattle.s38_machine.proofs.BegunLaws.{owned_by}
use Rattle.s38_rules.specs.state.Held.{Held}
use Rattle.s38_rules.specs.state.State.{State}
use Rattle.s38_rights_cache.specs.Places.{AreOwned}
use Rattle.s38_machine.proofs.world_machine.are_owned.Goals as goal

pub returns : goal.returns
returns c = subst (λ (h : Held). AreOwned h) (ap (λ (s : State). s.held) c.core.view_is) (owned_by _ c.len-count.ensures.lawful c.core.invariant.1.unowned)
