use Rattle.std.proofs.Common.{◌∙◌, ap, refl, drop, take, length, List, ℕ}
use Rattle.s38_image.proofs.SpaceReading.{page_differs, page_fits, pages_end}
use Rattle.s38_memory.specs.declared.cell.Cell.{Cell}
use Rattle.s38_image.proofs.spaces.are_tags.Goals as goal

pub returns-then-page_tags-page : goal.returns-then-page_tags-page
returns-then-page_tags-page c =
    let rest = c.loop-page.rest.now in
    let tags = c.args.tags.now in
    page_differs rest c.split_at.result.0.now c.split_at.result.1.now tags (length tags) c.loop-page.page-index 0 c.page_tags.result _ refl c.loop-page-test.true
    (c.split_at.ensures.front ∙ ap (λ (n : ℕ). take n rest) c.min.ensures) (c.split_at.ensures.back ∙ ap (λ (n : ℕ). drop n rest) c.min.ensures) c.page_tags.ensures.value c.if-page_tags-page.true c.loop-page.invariant

pub loop-page-preserved : goal.loop-page-preserved
loop-page-preserved c =
    let rest = c.loop-page.rest.now in
    let tags = c.args.tags.now in
    page_fits rest c.split_at.result.0.now c.split_at.result.1.now tags (length tags) c.loop-page.page-index 0 c.page_tags.result _ refl c.loop-page-test.true
    (c.split_at.ensures.front ∙ ap (λ (n : ℕ). take n rest) c.min.ensures) (c.split_at.ensures.back ∙ ap (λ (n : ℕ). drop n rest) c.min.ensures) c.page_tags.ensures.value c.if-page_tags-page.false c.loop-page.invariant

pub returns : goal.returns
returns c = pages_end c.loop-page.rest.now c.args.tags.now (length c.args.tags.now) c.loop-page.page-index _ refl c.loop-page-test.false c.loop-page.invariant
