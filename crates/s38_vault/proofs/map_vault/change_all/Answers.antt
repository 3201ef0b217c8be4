use Rattle.std.proofs.Common.{arith}
use Rattle.s38_vault.proofs.DirectoryLaws.{changed_on}
use Rattle.s38_vault.proofs.map_vault.change_all.Goals as goal

pub loop-change-preserved : goal.loop-change-preserved
loop-change-preserved c = record {
  values =
      changed_on c.args.pages.now.values c.loop-change.pages.values c.set.new.self.values c.args.changes.now c.loop-change.change-index _
      c.loop-change-test.true c.loop-change.invariant.values c.set.ensures.values;
  spare = omega arith;
}
