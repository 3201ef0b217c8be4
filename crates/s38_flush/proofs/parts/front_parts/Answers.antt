use Rattle.std.proofs.Common.{◌≡◌, List, subst, sym}
use Rattle.s38_base.specs.declared.page.Change.{Change}
use Rattle.s38_page_diff.specs.Differences.{IsWanted}
use Rattle.s38_image_writer.proofs.LengthLaws.{header_long}
use Rattle.s38_image_writer.specs.Parts.{header_with}
use Rattle.s38_flush.proofs.FrontLaws.{front_pieces, front_wanted}
use Rattle.s38_flush.specs.Fronts.{front_parts, front_range}
use Rattle.s38_flush.proofs.parts.front_parts.Goals as goal

pub returns-clause-parts : goal.returns-clause-parts
returns-clause-parts c =
    front_pieces c.args.object.now c.args.len c.in_ok-parts.parts.items c.with_header-parts.result.items c.with_rows.result.items c.in_ok-parts.ensures.items c.with_header-parts.ensures.parts c.with_rows.ensures.parts

pub returns-clause-wanted : goal.returns-clause-wanted
returns-clause-wanted c =
    let o = c.args.object.now in
    let made : c.with_rows.result.items ≡ front_parts o c.args.len =
    front_pieces o c.args.len c.in_ok-parts.parts.items c.with_header-parts.result.items c.with_rows.result.items c.in_ok-parts.ensures.items c.with_header-parts.ensures.parts c.with_rows.ensures.parts in
    subst (λ (ws : List Change). IsWanted (front_range o.number.0) ws) (sym made)
    (front_wanted o c.args.len (header_long (header_with o c.args.len) c.with_header-parts.ensures.name) c.requires)
