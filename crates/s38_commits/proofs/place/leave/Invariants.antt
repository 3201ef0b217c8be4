use Rattle.std.proofs.Common.{◌≡◌, ℕ, None, if◌then◌else◌, take}
use Rattle.std.specs.BTreeMap.{get}
use Rattle.s38_commits.specs.Changes.{has_change}
use Rattle.s38_commits.specs.Places.{place, place_cmp}
use Rattle.s38_commits.proofs.place.leave.Given as goal

abbrev pub invariant-loop-change : goal.invariant-loop-change
invariant-loop-change l = (space at : ℕ) → get place_cmp l.places (place space at)
    ≡ (if has_change space at (take l.change-index l.changes) then None else get place_cmp l.initial.places (place space at))
