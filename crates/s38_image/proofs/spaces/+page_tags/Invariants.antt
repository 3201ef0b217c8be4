use Rattle.std.proofs.Common.{length}
use Rattle.s38_image.proofs.spaces.+page_tags.Given as goal

abbrev pub decreases-page_tags : goal.decreases-page_tags
decreases-page_tags l = length l.cells.now
