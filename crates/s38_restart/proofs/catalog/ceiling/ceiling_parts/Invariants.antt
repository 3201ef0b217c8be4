use Rattle.std.proofs.Common.{◌≡◌, [], take}
use Rattle.s38_image.specs.PartPlaces.{ceiling_key}
use Rattle.s38_restart.specs.catalog.Groups.{parts_of_number}
use Rattle.s38_restart.proofs.catalog.ceiling.ceiling_parts.Given as goal

abbrev pub invariant-loop-at : goal.invariant-loop-at
invariant-loop-at l = parts_of_number ceiling_key (take l.at l.parts) ≡ []
