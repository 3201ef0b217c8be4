use Rattle.std.proofs.Common.{◌≡◌, ◌+◌, length, ◌∙◌, ap, arith}
use Rattle.s38_joblog.proofs.Grouping.{AreGrouped-none, AreGrouped-more, heads-count}
use Rattle.s38_joblog.specs.Grouped.{Gains, heads}
use Rattle.s38_joblog.proofs.log.grouped.Goals as goal

pub loop-k-init : goal.loop-k-init
loop-k-init c =
    let first : c.in_ok-texts.texts.items ≡ heads c.args.jobs.now = c.in_ok-texts.ensures in
    record {
      count = ap length first ∙ heads-count c.args.jobs.now;
      lines = AreGrouped-none (heads c.args.jobs.now) c.in_ok-texts.texts.items first;
    }

pub loop-k-preserved : goal.loop-k-preserved
loop-k-preserved c =
    let gains : Gains (c.loop-k.k + 1) c.index-history-k.result c.loop-k.texts.items c.add_line.new.texts.items = c.in_ok-add_line.ensures in
    record {
      count = gains.count ∙ c.loop-k.invariant.count;
      lines = AreGrouped-more (heads c.args.jobs.now) c.args.history.now c.loop-k.k c.index-history-k.result c.loop-k.texts.items c.add_line.new.texts.items
          (omega arith) c.index-history-k.is c.loop-k.invariant.lines gains;
    }
