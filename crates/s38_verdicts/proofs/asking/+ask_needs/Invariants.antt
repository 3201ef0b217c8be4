use Rattle.std.proofs.Common.{length}
use Rattle.s38_verdicts.proofs.asking.+ask_needs.Given as goal

abbrev pub decreases-ask_needs : goal.decreases-ask_needs
decreases-ask_needs l = length l.needs.now
