use Rattle.std.proofs.Common.{◌≡◌, ◌<◌, ◌^◌, List, arith, length, rules, subst, true}
use Rattle.s38_image.specs.Fitting.{rows_codec}
use Rattle.s38_image_writer.specs.Parts.{header_with}
use Rattle.s38_laws_images.proofs.readable.HeaderLaws.{header_fits}
use Rattle.s38_rules.specs.declared.rows.PrivateRow.{PrivateRow}
use Rattle.s38_laws_images.proofs.readable.fronts.front_is_readable.Goals as goal

pub returns : goal.returns
returns c =
    let o = c.args.object.now in
    let sub : o.id.sub < 256 = search rules in
    let context : o.context.0 < 2 ^ 64 = search rules in
    let owner : o.owner.0 < 2 ^ 64 = search rules in
    let public : o.public.0 < 256 = search rules in
    record {
      header = λ len le. header_fits (header_with o len) (record { sub = sub; name = c.as_bytes-name.ensures.name; context = context; owner = owner; public = public; rows = omega (arith, c.requires); body = omega (arith, le) });
      rows = subst (λ (rs : List PrivateRow). (rows_codec (length rs)).fits rs ≡ true) c.as_slice.ensures.value c.rows_are_readable.ensures;
    }
