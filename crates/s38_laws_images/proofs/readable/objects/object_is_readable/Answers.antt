use Rattle.std.proofs.Common.{◌≤◌, arith}
use Rattle.s38_base.specs.Limits.{furthest}
use Rattle.s38_laws_images.proofs.readable.ImageLaws.{image_is}
use Rattle.s38_laws_images.proofs.readable.objects.object_is_readable.Goals as goal
use Rattle.s38_rules.specs.store.Room.{image_len}

pub returns-clause-whole : goal.returns-clause-whole
returns-clause-whole c =
    let o = c.args.object.now in
    let len = c.image_len-len.ensures in
    let bound : image_len o.body ≤ furthest = omega (arith, len.len, len.bound) in
    image_is o c.requires.storable c.requires.limits c.front_is_readable.ensures c.body_is_readable.ensures bound len.bytes
