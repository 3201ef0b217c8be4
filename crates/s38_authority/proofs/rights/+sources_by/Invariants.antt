use Rattle.std.proofs.Common.{length}
use Rattle.s38_authority.proofs.rights.+sources_by.Given as goal

abbrev pub decreases-sources_by : goal.decreases-sources_by
decreases-sources_by g l = length l.users.now
