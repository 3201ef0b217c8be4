use Rattle.std.proofs.Common.{length}
use Rattle.s38_admin.proofs.resolving.+search_in.Given as goal

abbrev pub decreases-search_in : goal.decreases-search_in
decreases-search_in l = length l.contexts.now
