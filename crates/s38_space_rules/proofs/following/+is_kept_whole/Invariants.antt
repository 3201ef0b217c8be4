use Rattle.std.proofs.Common.{length}
use Rattle.s38_space_rules.proofs.following.+is_kept_whole.Given as goal

abbrev pub decreases-is_kept_whole : goal.decreases-is_kept_whole
decreases-is_kept_whole l = length l.all.now
