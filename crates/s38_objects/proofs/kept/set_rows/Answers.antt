use Rattle.std.proofs.Common.{rules, arith}
use Rattle.s38_objects.proofs.KeptLaws.{row_next}
use Rattle.s38_objects.proofs.kept.set_rows.Goals as goal

pub loop-row-preserved : goal.loop-row-preserved
loop-row-preserved c = record {
  rows = row_next c.loop-row.profiles.rows c.args.profiles.now.rows c.set_row.new.self.rows c.args.rows.now c.loop-row.row-index c.args.number.0 _ c.requires.rising (omega arith) c.loop-row.invariant.rows c.in_ok-set_row.ensures.others;
  users = search rules;
}
