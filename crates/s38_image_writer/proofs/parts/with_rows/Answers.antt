use Rattle.std.proofs.Common.{◌*◌, ◌∙◌, List, length, ap, arith}
use Rattle.std.specs.List.{flat_map}
use Rattle.s38_image.specs.Headers.{row_form}
use Rattle.s38_image_writer.proofs.PartLaws.{rows_long, streamed, streamed_len}
use Rattle.s38_rules.specs.declared.rows.PrivateRow.{PrivateRow}
use Rattle.s38_image_writer.proofs.parts.with_rows.Goals as goal

pub returns-clause-len : goal.returns-clause-len
returns-clause-len c =
    let number = c.args.object.now.number.0 in
    let rows = c.as_slice.result.now in
    let all = streamed c.new-writer.result c.put_rows.new.into c.args.parts.items number 1 _ _ _ (flat_map row_form.print rows) c.finish.result.items c.new-writer.ensures c.put_rows.ensures c.finish.ensures.parts in
    let long = ap (λ (rs : List PrivateRow). length (flat_map row_form.print rs)) c.as_slice.ensures.value ∙ rows_long c.args.object.now in
    omega (arith, c.finish.result.ok.0, c.args.parts.ok.0, streamed_len number 1 (9 * length c.args.object.now.rows) (flat_map row_form.print rows) c.args.parts.items c.finish.result.items all long)
