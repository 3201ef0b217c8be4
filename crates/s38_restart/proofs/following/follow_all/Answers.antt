use Rattle.std.proofs.Common.{ap, map, refl, sym, ◌∙◌}
use Rattle.s38_restart.specs.Restarted.{imaged, number_in_stored, with_followed}
use Rattle.s38_restart.proofs.FollowLaws.{followed_on, mixed_all, mixed_map}
use Rattle.s38_restart.proofs.following.follow_all.Goals as goal

pub follow_at-requires-clause-numbers : goal.follow_at-requires-clause-numbers
follow_at-requires-clause-numbers c =
    let xs = c.args.stored.now in
    c.requires.numbers ∙ sym (ap (map number_in_stored) c.loop-at.invariant ∙ mixed_map number_in_stored (with_followed (imaged xs)) (λ s. refl) c.loop-at.at xs)

pub loop-at-preserved : goal.loop-at-preserved
loop-at-preserved c =
    followed_on c.args.stored.now c.loop-at.stored c.follow_at.new.stored c.loop-at.at c.loop-at.invariant c.loop-at-test.true c.in_ok-follow_at.ensures

pub returns : goal.returns
returns c =
    let xs = c.args.stored.now in
    c.loop-at.invariant ∙ mixed_all (with_followed (imaged xs)) c.loop-at.at xs c.loop-at-test.false
