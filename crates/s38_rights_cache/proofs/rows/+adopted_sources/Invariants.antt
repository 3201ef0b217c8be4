use Rattle.std.proofs.Common.{length}
use Rattle.s38_rights_cache.proofs.rows.+adopted_sources.Given as goal

abbrev pub decreases-adopted_sources : goal.decreases-adopted_sources
decreases-adopted_sources g l = length l.frames.now
