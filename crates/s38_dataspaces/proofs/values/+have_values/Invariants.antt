use Rattle.std.proofs.Common.{length}
use Rattle.s38_dataspaces.proofs.values.+have_values.Given as goal

abbrev pub decreases-have_values : goal.decreases-have_values
decreases-have_values l = length l.fields.now
