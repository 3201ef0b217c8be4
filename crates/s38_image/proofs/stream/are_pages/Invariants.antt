use Rattle.std.proofs.Common.{◌≡◌, ◌+◌, ◌-◌, drop}
use Rattle.s38_image.specs.Pages.{are_pages}
use Rattle.s38_image.proofs.stream.are_pages.Given as goal

abbrev pub invariant-loop-change : goal.invariant-loop-change
invariant-loop-change l =
    record {
      same : are_pages l.number (l.first + l.change-index) (l.count - l.change-index) (drop l.change-index l.parts) ≡ are_pages l.number l.first l.count l.parts;
      part : l.part ≡ l.first + l.change-index;
    }
