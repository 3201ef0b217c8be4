use Rattle.std.proofs.Common.{length}
use Rattle.s38_verdicts.proofs.rights.+each_unmet.Given as goal

abbrev pub decreases-each_unmet : goal.decreases-each_unmet
decreases-each_unmet l = length l.needs.now
