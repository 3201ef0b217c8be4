use Rattle.std.proofs.Common.{◌∙◌, List, ap}
use Rattle.std.specs.List.{flat_map}
use Rattle.s38_rules.specs.store.Forcing.{Forced}
use Rattle.s38_rules.specs.store.Storing.{extents_of}
use Rattle.s38_space_rules.proofs.following.follow.Goals as goal

pub returns : goal.returns
returns c =
    let extents =
    c.follow_all.ensures.extents
    ∙ ap (λ (all : List Forced). flat_map (extents_of all c.args.room.now.room.extents) c.args.objects.now.objects) c.as_slice.ensures.value in
    λ i. record { parts = c.follow_all.ensures.parts i; extents = extents i }
