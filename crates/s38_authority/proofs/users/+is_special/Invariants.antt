use Rattle.std.proofs.Common.{length}
use Rattle.s38_authority.proofs.users.+is_special.Given as goal

abbrev pub decreases-is_special : goal.decreases-is_special
decreases-is_special g l = length l.users.now
