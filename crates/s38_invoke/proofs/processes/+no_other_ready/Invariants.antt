use Rattle.std.proofs.Common.{length}
use Rattle.s38_invoke.proofs.processes.+no_other_ready.Given as goal

abbrev pub decreases-no_other_ready : goal.decreases-no_other_ready
decreases-no_other_ready g l = length l.entries.now
