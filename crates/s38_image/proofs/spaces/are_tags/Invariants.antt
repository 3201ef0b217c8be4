use Rattle.std.proofs.Common.{◌≡◌, ◌-◌, drop, length, map}
use Rattle.s38_image.specs.Pages.{same_list}
use Rattle.s38_image.specs.Spaces.{is_tagged, tag_numbers}
use Rattle.s38_image.proofs.spaces.are_tags.Given as goal

abbrev pub invariant-loop-page : goal.invariant-loop-page
invariant-loop-page l =
    same_list (tag_numbers (length l.tags - l.page-index) (map is_tagged l.rest)) (drop l.page-index l.tags) ≡ same_list (tag_numbers (length l.tags) (map is_tagged l.cells)) l.tags
