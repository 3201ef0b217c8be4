use Rattle.std.proofs.Common.{sym}
use Rattle.std.proofs.lemmas.List.{drop_all, take_all}
use Rattle.s38_image_writer.proofs.pages.split_cells.Goals as goal

pub returns-then-cells-le-PAGE_CELLS-clause-page : goal.returns-then-cells-le-PAGE_CELLS-clause-page
returns-then-cells-le-PAGE_CELLS-clause-page c = sym (take_all 32 c.args.cells.now c.if-cells-le-PAGE_CELLS.true)

pub returns-then-cells-le-PAGE_CELLS-clause-more : goal.returns-then-cells-le-PAGE_CELLS-clause-more
returns-then-cells-le-PAGE_CELLS-clause-more c = sym (drop_all 32 c.args.cells.now c.if-cells-le-PAGE_CELLS.true)
