use Rattle.std.proofs.Common.{◌∙◌, arith}
use Rattle.s38_template.proofs.TemplatePlaces.{walked_more}
use Rattle.s38_template.proofs.places.template_places.Goals as goal

pub loop-at-preserved : goal.loop-at-preserved
loop-at-preserved c = λ q.
    c.in_ok-places.ensures q ∙ walked_more c.as_slice-template-items.result.now c.args.deck.now.templates c.loop-at.at c.template-item.result _ q c.as_slice-template-items.ensures.items (omega arith) c.template-item.is (c.loop-at.invariant q)
