use Rattle.std.proofs.Common.{◌∙◌, sym}
use Rattle.s38_rules.specs.store.Storable.{IsStorable}
use Rattle.s38_space_rules.proofs.FollowLaws.{found_all}
use Rattle.s38_space_rules.proofs.following.follow_at.Goals as goal

pub kept_extent-kept-requires : goal.kept_extent-kept-requires
kept_extent-kept-requires c = λ o e. found_all IsStorable c.args.objects.now.objects c.args.number.0 o c.requires.storable (sym c.get.ensures ∙ e)
