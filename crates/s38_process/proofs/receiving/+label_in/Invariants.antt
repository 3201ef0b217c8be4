use Rattle.std.proofs.Common.{length}
use Rattle.s38_process.proofs.receiving.+label_in.Given as goal

abbrev pub decreases-label_in : goal.decreases-label_in
decreases-label_in l = length l.args.now
