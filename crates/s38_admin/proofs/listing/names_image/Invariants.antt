use Rattle.std.proofs.Common.{◌≡◌, ◌++◌}
use Rattle.std.specs.List.{flat_map}
use Rattle.s38_rules.specs.families.ContextLists.{name_image, names_image}
use Rattle.s38_admin.proofs.listing.names_image.Given as goal

-- what is made, with the images of the names that are left, is the whole image
abbrev pub invariant-loop-listed : goal.invariant-loop-listed
invariant-loop-listed l = l.made.items ++ flat_map name_image l.listed-iterator ≡ names_image l.names.entries
