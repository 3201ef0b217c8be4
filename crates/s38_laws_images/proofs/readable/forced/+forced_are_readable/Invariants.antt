use Rattle.std.proofs.Common.{length}
use Rattle.s38_laws_images.proofs.readable.forced.+forced_are_readable.Given as goal

abbrev pub decreases-forced_are_readable : goal.decreases-forced_are_readable
decreases-forced_are_readable l = length l.all.now
