use Rattle.std.proofs.Common.{◌≡◌, map, take}
use Rattle.s38_rules.specs.families.ContextLists.{character}
use Rattle.s38_admin.proofs.listing.characters.Given as goal

abbrev pub invariant-loop-c : goal.invariant-loop-c
invariant-loop-c l = l.made ≡ map character (take l.c-index l.name)
