use Rattle.std.proofs.Common.{length}
use Rattle.s38_authority.proofs.users.+is_governed_by.Given as goal

abbrev pub decreases-is_governed_by : goal.decreases-is_governed_by
decreases-is_governed_by g l = length l.users.now
