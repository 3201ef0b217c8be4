use Rattle.std.proofs.Common.{◌≡◌, drop}
use Rattle.std.specs.List.{list_any}
use Rattle.s38_image.specs.Pages.{is_page}
use Rattle.s38_image.proofs.assembly.first_place.Given as goal

abbrev pub invariant-loop-at : goal.invariant-loop-at
invariant-loop-at l = list_any (is_page l.number l.part) (drop l.at l.parts) ≡ list_any (is_page l.number l.part) l.parts
