use Rattle.s38_image.proofs.StreamLaws.{joined_more, whole_more, whole_none}
use Rattle.s38_image.proofs.stream.joined.Goals as goal

pub loop-change-init : goal.loop-change-init
loop-change-init c = record { read = c.new-bytes.ensures.items; whole = whole_none c.args.parts.now }

pub loop-change-preserved : goal.loop-change-preserved
loop-change-preserved c =
    let ps = c.args.parts.now in
    let i = c.loop-change.change-index in
    record {
      read = joined_more ps i _ _ _ c.loop-change-test.true (c.in_ok-push_page.ensures.ok) c.loop-change.invariant.read;
      whole = whole_more ps i _ c.loop-change-test.true c.loop-change.invariant.whole (c.in_ok-push_page.ensures.whole);
    }
