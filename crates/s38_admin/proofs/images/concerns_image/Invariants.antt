use Rattle.std.proofs.Common.{◌≡◌, ◌++◌, filter}
use Rattle.std.specs.List.{flat_map}
use Rattle.s38_rules.specs.families.AuthorityReads.{concern_image, concerns, concerns_image}
use Rattle.s38_admin.proofs.images.concerns_image.Given as goal

-- what is made, with the images of the objects that are left, is the whole image
abbrev pub invariant-loop-object : goal.invariant-loop-object
invariant-loop-object l = l.made.items ++ flat_map (concern_image l.user.0) (filter (concerns l.user.0) l.object-iterator) ≡ concerns_image l.user.0 (filter (concerns l.user.0) l.objects.objects)
