use Rattle.std.specs.Prelude.{length}
use Rattle.s38_machine.proofs.storing.+keep_each.Given as goal

abbrev pub decreases-keep_each : goal.decreases-keep_each
decreases-keep_each l = length l.all.now
