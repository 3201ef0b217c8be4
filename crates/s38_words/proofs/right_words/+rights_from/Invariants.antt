use Rattle.std.proofs.Common.{length}
use Rattle.s38_words.proofs.right_words.+rights_from.Given as goal

abbrev pub decreases-rights_from : goal.decreases-rights_from
decreases-rights_from l = length l.bits.now
