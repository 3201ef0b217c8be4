use Rattle.std.proofs.Common.{◌≡◌, take}
use Rattle.s38_image.specs.Fitting.{AreWhole}
use Rattle.s38_image.specs.Pages.{stream}
use Rattle.s38_image.proofs.stream.joined.Given as goal

abbrev pub invariant-loop-change : goal.invariant-loop-change
invariant-loop-change l =
    record {
      read : l.bytes.items ≡ stream (take l.change-index l.parts);
      whole : AreWhole (take l.change-index l.parts);
    }
