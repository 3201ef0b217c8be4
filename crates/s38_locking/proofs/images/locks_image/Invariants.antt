use Rattle.std.proofs.Common.{◌≡◌, ◌++◌, drop}
use Rattle.std.specs.List.{flat_map}
use Rattle.s38_rules.specs.families.Locking.{lock_image, locks_image}
use Rattle.s38_locking.proofs.images.locks_image.Given as goal

-- what is made, with the images of the locks that are left, is the whole image
abbrev pub invariant-loop-lock : goal.invariant-loop-lock
invariant-loop-lock l = l.made.items ++ flat_map lock_image (drop l.lock-index l.locks) ≡ locks_image l.locks
