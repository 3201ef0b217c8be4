use Rattle.std.proofs.Common.{◌≡◌, map}
use Rattle.std.specs.List.{flat_map}
use Rattle.std.specs.Map.Iter.{deref}
use Rattle.s38_listing.specs.Listing.{list_line}
use Rattle.s38_listing.proofs.list.list_text.Given as goal

-- the lines of the objects so far
abbrev pub invariant-loop-object : goal.invariant-loop-object
invariant-loop-object l = l.text ≡ flat_map list_line (map deref l.yielded)
