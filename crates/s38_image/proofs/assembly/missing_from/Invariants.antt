use Rattle.std.proofs.Common.{◌≡◌, ◌+◌, ◌-◌}
use Rattle.std.specs.List.{range_with_len}
use Rattle.s38_image.specs.Images.{first_missing}
use Rattle.s38_image.proofs.assembly.missing_from.Given as goal

abbrev pub invariant-loop-part : goal.invariant-loop-part
invariant-loop-part l = first_missing l.number l.parts (range_with_len l.part (l.first + l.count - l.part)) ≡ first_missing l.number l.parts (range_with_len l.first l.count)
