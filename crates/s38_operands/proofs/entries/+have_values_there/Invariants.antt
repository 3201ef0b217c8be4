use Rattle.std.proofs.Common.{length}
use Rattle.s38_operands.proofs.entries.+have_values_there.Given as goal

abbrev pub decreases-have_values_there : goal.decreases-have_values_there
decreases-have_values_there l = length l.fields.now
