use Rattle.std.proofs.Common.{rules, arith, refl}
use Rattle.s38_changes.proofs.RowLaws.{all_yet, next_out, none_yet}
use Rattle.s38_changes.proofs.users.take_rows.Goals as goal

pub loop-row-init : goal.loop-row-init
loop-row-init c = record { rows = all_yet c.args.profiles.now.rows c.args.number.0 c.args.rows.now c.requires.kept; users = refl }

pub loop-row-preserved : goal.loop-row-preserved
loop-row-preserved c = record {
  rows = next_out c.loop-row.profiles.rows c.args.profiles.now.rows c.take_row.new.profiles.rows c.args.rows.now c.loop-row.row-index c.args.number.0 _ c.requires.rising (omega arith) c.loop-row.invariant.rows c.take_row.ensures.rows;
  users = search rules;
}

pub returns-clause-rows : goal.returns-clause-rows
returns-clause-rows c = none_yet c.loop-row.profiles.rows c.args.profiles.now.rows c.args.rows.now c.loop-row.row-index c.args.number.0 (omega arith) c.loop-row.invariant.rows
