use Rattle.std.proofs.Common.{length}
use Rattle.s38_create.proofs.suits.+all_suit.Given as goal

abbrev pub decreases-all_suit : goal.decreases-all_suit
decreases-all_suit l = length l.classes.now
