use Rattle.std.proofs.Common.{length}
use Rattle.s38_process.proofs.exceptions.+label_for.Given as goal

abbrev pub decreases-label_for : goal.decreases-label_for
decreases-label_for l = length l.rows.now
