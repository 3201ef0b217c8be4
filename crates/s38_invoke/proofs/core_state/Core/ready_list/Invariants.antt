use Rattle.std.proofs.Common.{◌≡◌}
use Rattle.std.specs.Prelude.{filter}
use Rattle.std.specs.List.{range_with_len}
use Rattle.s38_rules.specs.state.State.{ready}
use Rattle.s38_invoke.proofs.core_state.Core.ready_list.Given as goal

abbrev pub invariant-loop-at : goal.invariant-loop-at
invariant-loop-at g l = l.into.items ≡ filter (ready l.self) (range_with_len 1 l.at)
