use Rattle.std.proofs.Common.{sym, ◌∙◌, arith}
use Rattle.s38_image.proofs.StreamLaws.{page_fails, page_holds, pages_apart, pages_end}
use Rattle.s38_image.proofs.stream.are_pages.Goals as goal

pub returns-then-parts-count : goal.returns-then-parts-count
returns-then-parts-count c = pages_apart c.args.number c.args.first c.args.count c.args.parts.now c.if-parts-count.true

pub returns-then-not-is_page : goal.returns-then-not-is_page
returns-then-not-is_page c =
    page_fails c.args.number c.args.first c.args.count c.loop-change.part c.loop-change.change-index c.args.parts.now _ c.is_page.result _
    c.if-parts-count.false (omega (arith, c.if-parts-count.false, c.loop-change-test.true)) c.loop-change.invariant.part c.is_page.ensures c.if-not-is_page.true c.loop-change.invariant.same

pub loop-change-preserved : goal.loop-change-preserved
loop-change-preserved c =
    record {
      same = page_holds c.args.number c.args.first c.args.count c.loop-change.part c.loop-change.change-index c.args.parts.now _ c.is_page.result _
          c.if-parts-count.false (omega (arith, c.if-parts-count.false, c.loop-change-test.true)) c.loop-change.invariant.part c.is_page.ensures c.if-not-is_page.false c.loop-change.invariant.same;
      part = omega (arith, c.loop-change.invariant.part);
    }

pub returns : goal.returns
returns c = sym (sym c.loop-change.invariant.same ∙ pages_end c.args.number c.args.first c.args.count c.loop-change.change-index c.args.parts.now c.if-parts-count.false (omega (arith, c.if-parts-count.false, c.loop-change-test.false)))
