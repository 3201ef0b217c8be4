use Rattle.std.proofs.Common.{length}
use Rattle.s38_invoke.proofs.starts.+absent_context.Given as goal

abbrev pub decreases-absent_context : goal.decreases-absent_context
decreases-absent_context g l = length l.names.now
