use Rattle.std.proofs.Common.{ℕ, ◌++◌, ◌∙◌, [], ap}
use Rattle.s38_image.specs.Headers.{header}
use Rattle.s38_image.specs.Pages.{stream_parts}
use Rattle.s38_image_writer.proofs.PartLaws.{all_pieces}
use Rattle.s38_image_writer.specs.Parts.{header_with}
use Rattle.s38_image_writer.proofs.parts.with_parts.Goals as goal

pub returns-clause-parts : goal.returns-clause-parts
returns-clause-parts c =
    let o = c.args.object.now in
    let units = c.args.units.now in
    let headed = c.with_header-parts.ensures.parts ∙ ap (λ (n : ℕ). c.args.parts.items ++ stream_parts o.number.0 0 (header.print (header_with o n)) []) c.image_len-len.ensures.len in
    all_pieces units c.args.last o c.args.parts.items c.with_header-parts.result.items c.with_rows-parts.result.items c.with_body.result.items c.requires.object.kind
    (c.image_len-len.ensures.bytes units o.number.0 c.args.last c.requires.units) headed c.with_rows-parts.ensures.parts c.with_body.ensures.parts
