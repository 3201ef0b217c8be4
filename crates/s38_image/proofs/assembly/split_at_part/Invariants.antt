use Rattle.std.proofs.Common.{◌≡◌, ◌++◌, drop, take}
use Rattle.s38_image.specs.Images.{after_leading, leading}
use Rattle.s38_image.proofs.assembly.split_at_part.Given as goal

abbrev pub invariant-loop-at : goal.invariant-loop-at
invariant-loop-at l =
    record {
      front : leading l.limit l.parts ≡ take l.at l.parts ++ leading l.limit (drop l.at l.parts);
      rest : after_leading l.limit l.parts ≡ after_leading l.limit (drop l.at l.parts);
    }
