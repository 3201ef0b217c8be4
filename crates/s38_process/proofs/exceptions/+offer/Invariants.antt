use Rattle.std.proofs.Common.{length}
use Rattle.s38_process.proofs.exceptions.+offer.Given as goal

abbrev pub decreases-offer : goal.decreases-offer
decreases-offer l = length l.invocations.now.callers
