use Rattle.std.proofs.Common.{length}
use Rattle.s38_admin.proofs.authority_reads.+acts.Given as goal

abbrev pub decreases-acts : goal.decreases-acts
decreases-acts l = length l.users.now
