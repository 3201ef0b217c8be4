use Rattle.std.proofs.Common.{length}
use Rattle.s38_verdicts.proofs.by_operand.+needs_rule.Given as goal

abbrev pub decreases-needs_rule : goal.decreases-needs_rule
decreases-needs_rule g l = length l.needs.now
