use Rattle.std.proofs.Common.{◌*◌, ◌∙◌}
use Rattle.std.specs.List.{range_with_len}
use Rattle.s38_image.proofs.PartReading.{missing_first}
use Rattle.s38_image.specs.Pages.{needed}
use Rattle.s38_image.proofs.assembly.missing.Goals as goal

pub returns-in-Some : goal.returns-in-Some
returns-in-Some c =
    let h = c.args.header.now in
    missing_first c.args.number c.args.parts.now (range_with_len 1 (needed (9 * h.rows))) (range_with_len 128 (needed h.body)) _ c.in-Some.ensures

pub returns-in-None : goal.returns-in-None
returns-in-None c =
    let h = c.args.header.now in
    missing_first c.args.number c.args.parts.now (range_with_len 1 (needed (9 * h.rows))) (range_with_len 128 (needed h.body)) _ c.in-None.ensures ∙ c.missing_body.ensures
