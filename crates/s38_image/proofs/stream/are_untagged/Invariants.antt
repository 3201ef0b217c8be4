use Rattle.std.proofs.Common.{◌≡◌, drop}
use Rattle.std.specs.List.{list_all}
use Rattle.s38_codec.specs.Codec.{byte_is_zero}
use Rattle.s38_image.specs.Pages.{tags_in}
use Rattle.s38_image.proofs.stream.are_untagged.Given as goal

abbrev pub invariant-loop-change : goal.invariant-loop-change
invariant-loop-change l = list_all byte_is_zero (tags_in (drop l.change-index l.parts)) ≡ list_all byte_is_zero (tags_in l.parts)
