use Rattle.std.proofs.Common.{length}
use Rattle.s38_process.proofs.receiving.+receive_all.Given as goal

abbrev pub decreases-receive_all : goal.decreases-receive_all
decreases-receive_all l = length l.args.now
