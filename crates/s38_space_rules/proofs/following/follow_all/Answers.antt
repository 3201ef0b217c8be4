use Rattle.std.proofs.Common.{◌∙◌}
use Rattle.s38_space_map.specs.Forcings.{all_forced}
use Rattle.s38_space_rules.proofs.FollowLaws.{follows}
use Rattle.s38_space_rules.proofs.following.follow_all.Goals as goal

pub returns-clause-extents : goal.returns-clause-extents
returns-clause-extents c =
    c.follow_each.ensures.extents ∙ follows (all_forced c.args.all.now) c.args.room.now.room.extents c.args.objects.now c.count-kept.ensures.rising c.len-count.ensures.lawful.rising c.requires.fits
