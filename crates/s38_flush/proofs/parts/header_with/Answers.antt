use Rattle.std.proofs.Common.{◌<◌, ◌^◌, arith, rules}
use Rattle.s38_image.specs.declared.header.Header.{Header}
use Rattle.s38_laws_images.proofs.readable.HeaderLaws.{header_fits}
use Rattle.s38_flush.proofs.parts.header_with.Goals as goal

pub returns-clause-fits : goal.returns-clause-fits
returns-clause-fits c =
    let o = c.args.object.now in
    let h : Header = record { id = o.id; context = o.context; owner = o.owner; public = o.public; rows = c.len.result; body = c.args.len } in
    let sub : o.id.sub < 256 = search rules in
    let context : o.context.0 < 2 ^ 64 = search rules in
    let owner : o.owner.0 < 2 ^ 64 = search rules in
    let public : o.public.0 < 256 = search rules in
    let body : c.args.len < 2 ^ 32 = search rules in
    header_fits h (record { sub = sub; name = c.as_bytes-name.ensures.name; context = context; owner = owner; public = public; rows = omega (arith, c.len.ensures, c.requires); body = body })
