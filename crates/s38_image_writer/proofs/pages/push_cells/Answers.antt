use Rattle.std.proofs.Common.{◌*◌, ◌≤◌, ◌∙◌, ◌++◌, List, All, length, arith, ap, sym, subst}
use Rattle.std.proofs.lemmas.List.Elements.{All-drop}
use Rattle.s38_base.specs.declared.page.Change.{Change}
use Rattle.s38_memory.specs.Cell.{IsCell}
use Rattle.s38_memory.specs.declared.cell.Cell.{Cell}
use Rattle.s38_image_writer.proofs.CutLaws.{cells_parts, pages_done, pushed_cells}
use Rattle.s38_image.specs.Pages.{needed}
use Rattle.s38_memory.specs.Tagged.{bytes_in}
use Rattle.s38_image_writer.proofs.pages.push_cells.Goals as goal

pub loop-k-preserved : goal.loop-k-preserved
loop-k-preserved c =
    record {
      parts = pushed_cells c.args.number c.args.first (needed (16 * length c.args.cells.now)) c.loop-k.k c.loop-k.into.items c.push_reserved.new.self.items c.loop-k.rest.now _ _ c.cells_page.result _
          (omega (arith, c.loop-k-test.true, c.needed-k-end.ensures.value)) c.loop-k.invariant.cells c.split_cells.ensures.page c.split_cells.ensures.more c.cells_page.ensures c.push_reserved.ensures.items c.loop-k.invariant.parts;
      cells = subst (λ (cs : List Cell). All IsCell cs) (sym c.split_cells.ensures.more) (All-drop IsCell 32 c.loop-k.rest.now c.loop-k.invariant.cells);
      len = omega (arith, c.push_reserved.ensures.len, c.loop-k.invariant.len);
      kept = c.push_reserved.ensures.capacity ∙ c.loop-k.invariant.kept;
    }

pub returns-clause-parts : goal.returns-clause-parts
returns-clause-parts c =
    let cs = c.args.cells.now in
    let le : needed (16 * length cs) ≤ c.loop-k.k = omega (arith, c.loop-k-test.false, c.needed-k-end.ensures.value) in
    pages_done c.args.number c.args.first (needed (16 * length cs)) c.loop-k.k c.loop-k.into.items (bytes_in c.loop-k.rest.now) c.loop-k.rest.now _ le c.loop-k.invariant.parts
    ∙ ap (λ (q : List Change). c.args.into.now.items ++ q) (cells_parts c.args.number c.args.first cs c.requires.cells)
