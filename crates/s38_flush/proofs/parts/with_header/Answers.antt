use Rattle.std.proofs.Common.{◌∙◌, ◌++◌, [], length, ap, arith}
use Rattle.s38_image.specs.Headers.{header}
use Rattle.s38_image.specs.Pages.{stream_parts}
use Rattle.s38_image.specs.declared.header.Header.{Header}
use Rattle.s38_image_writer.proofs.LengthLaws.{header_long}
use Rattle.s38_image_writer.proofs.PartLaws.{streamed, streamed_len}
use Rattle.s38_image_writer.specs.Parts.{header_with}
use Rattle.s38_flush.proofs.parts.with_header.Goals as goal

pub returns-clause-parts : goal.returns-clause-parts
returns-clause-parts c =
    let number = c.args.object.now.number.0 in
    let h = c.header_with-header.result in
    streamed c.new-writer.result c.put_header.new.into c.args.parts.items number 0 _ _ _ (header.print h) c.finish.result.items c.new-writer.ensures c.put_header.ensures c.finish.ensures.parts
    ∙ ap (λ (v : Header). c.args.parts.items ++ stream_parts number 0 (header.print v) []) c.header_with-header.ensures.value

pub returns-clause-len : goal.returns-clause-len
returns-clause-len c =
    let number = c.args.object.now.number.0 in
    let h = c.header_with-header.result in
    let all = streamed c.new-writer.result c.put_header.new.into c.args.parts.items number 0 _ _ _ (header.print h) c.finish.result.items c.new-writer.ensures c.put_header.ensures c.finish.ensures.parts in
    let long = ap (λ (v : Header). length (header.print v)) c.header_with-header.ensures.value ∙ header_long (header_with c.args.object.now c.args.len) c.header_with-header.ensures.name in
    omega (arith, c.finish.result.ok.0, c.args.parts.ok.0, streamed_len number 0 512 (header.print h) c.args.parts.items c.finish.result.items all long)
