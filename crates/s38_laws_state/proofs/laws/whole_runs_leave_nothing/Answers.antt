use Rattle.s38_laws_state.proofs.EndLaws.{nothing_left}
use Rattle.s38_laws_state.proofs.laws.whole_runs_leave_nothing.Goals as goal

pub returns : goal.returns
returns c = nothing_left
