use Rattle.std.proofs.Common.{get_or, refl, sym, ◌∙◌}
use Rattle.std.proofs.lemmas.Option.{slice_get-get_or}
use Rattle.s38_restart.specs.Restarted.{number_in_stored}
use Rattle.s38_restart.proofs.FollowLaws.{followed_at, set_map}
use Rattle.s38_restart.proofs.following.follow_at.Goals as goal

pub follow_body-requires-clause-numbers : goal.follow_body-requires-clause-numbers
follow_body-requires-clause-numbers c =
    let xs = c.args.stored.now in
    let one = c.index-stored-at-3.result in
    c.requires.numbers ∙ sym (set_map number_in_stored xs c.args.at (get_or xs c.args.at one) _ (slice_get-get_or xs c.args.at one c.requires.there) refl)

pub returns : goal.returns
returns c = λ s there.
    followed_at c.args.stored.now c.args.at s c.index-stored-at.result c.index-stored-at-2.result c.index-stored-at-3.result c.index-stored-at-4.result
    c.replace-body.new.dest c.replace-body.result c.follow_body.new.body c.requires.there there c.replace-body.ensures.after c.replace-body.ensures.value c.in_ok-follow_body.ensures
