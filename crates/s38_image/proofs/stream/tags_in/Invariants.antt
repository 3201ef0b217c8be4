use Rattle.std.proofs.Common.{◌≡◌, take}
use Rattle.s38_image.specs.Pages.{tags_in}
use Rattle.s38_image.proofs.stream.tags_in.Given as goal

abbrev pub invariant-loop-change : goal.invariant-loop-change
invariant-loop-change l = l.tags.items ≡ tags_in (take l.change-index l.parts)
