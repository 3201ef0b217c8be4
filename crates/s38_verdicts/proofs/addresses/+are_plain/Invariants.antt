use Rattle.std.proofs.Common.{length}
use Rattle.s38_verdicts.proofs.addresses.+are_plain.Given as goal

abbrev pub decreases-are_plain : goal.decreases-are_plain
decreases-are_plain l = length l.operands.now
