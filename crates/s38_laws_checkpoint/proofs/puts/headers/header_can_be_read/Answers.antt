use Rattle.std.proofs.Common.{◌<◌, ◌≤◌, ◌^◌, ap, arith, rules, refl}
use Rattle.s38_durable_state.specs.Durable.{last_sequence_in}
use Rattle.s38_image.specs.declared.header.Header.{Header}
use Rattle.s38_image_writer.specs.Parts.{header_with}
use Rattle.s38_laws_images.proofs.readable.HeaderLaws.{header_fits}
use Rattle.s38_rules.specs.state.Journaling.{journal_for}
use Rattle.s38_rules.specs.store.Room.{image_len}
use Rattle.s38_flush.proofs.FollowedLaws.{whole_has}
use Rattle.s38_laws_checkpoint.proofs.puts.headers.header_can_be_read.Goals as goal

pub returns : goal.returns
returns c = λ units h settles.
    let o = c.args.object.now in
    let head : Header = header_with o (image_len o.body) in
    let sub : o.id.sub < 256 = search rules in
    let context : o.context.0 < 2 ^ 64 = search rules in
    let owner : o.owner.0 < 2 ^ 64 = search rules in
    let public : o.public.0 < 256 = search rules in
    let short : image_len o.body ≤ 16777216 = omega (arith, c.image_len-len.ensures.len, c.image_len-len.ensures.bound) in
    let fits = header_fits head (record { sub = sub; name = c.as_bytes-name.ensures.name; context = context; owner = owner; public = public; rows = omega (arith, c.requires.rows); body = omega (arith, short) }) in
    whole_has units h o c.requires head (ap (header_with o) (c.part_count-count.ensures.body units (last_sequence_in h (journal_for h o.number.0)) settles)) refl fits
