use Rattle.std.proofs.Common.{length}
use Rattle.s38_verdicts.proofs.resolved.+add_all.Given as goal

abbrev pub decreases-add_all : goal.decreases-add_all
decreases-add_all l = length l.needs.now
