use Rattle.std.proofs.Common.{refl}
use Rattle.s38_space_rules.proofs.following.kept_extent.Goals as goal

pub extent_after-requires : goal.extent_after-requires
extent_after-requires c = c.requires c.in-Some.object.now (rw c.in-Some.is refl)
