use Rattle.std.proofs.Common.{◌≡◌}
use Rattle.s38_restart.proofs.FollowLaws.{mixed}
use Rattle.s38_restart.specs.Restarted.{imaged, with_followed}
use Rattle.s38_restart.proofs.following.follow_all.Given as goal

-- the first objects are followed
abbrev pub invariant-loop-at : goal.invariant-loop-at
invariant-loop-at l = l.stored ≡ mixed (with_followed (imaged l.initial.stored)) l.at l.initial.stored
