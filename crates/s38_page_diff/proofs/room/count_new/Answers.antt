use Rattle.std.proofs.Common.{◌≡◌, arith, ap, cond, ◌∙◌, ◌+◌, sym}
use Rattle.s38_vault.proofs.DirectoryLaws.{count_on}
use Rattle.s38_page_diff.proofs.room.count_new.Goals as goal
use Rattle.s38_page_diff.proofs.room.count_new.Goals.{then-is_new, else-is_new}

pub loop-change-preserved : goal.loop-change-preserved
loop-change-preserved g c =
    let keys = (g.V.Vault.view c.args.vault.now).keys in
    let before = c.loop-change.count in
    elim c.if-is_new.branch [
      | then-is_new w ↦ record {
        few = omega arith;
        counted =
            count_on keys c.args.changes.now c.loop-change.change-index _ before c.if-is_new.count c.is_new.result
            c.loop-change-test.true c.loop-change.invariant.counted c.is_new.ensures (w.count-is ∙ ap (λ b. before + cond b 1 0) (sym w.if-is_new.true));
      }
      | else-is_new w ↦ let same : c.if-is_new.count ≡ before + 0 = omega arith in record {
        few = omega arith;
        counted =
            count_on keys c.args.changes.now c.loop-change.change-index _ before c.if-is_new.count c.is_new.result
            c.loop-change-test.true c.loop-change.invariant.counted c.is_new.ensures (same ∙ ap (λ b. before + cond b 1 0) (sym w.if-is_new.false));
      }
    ]
