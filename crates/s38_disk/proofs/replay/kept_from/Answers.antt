use Rattle.std.proofs.Common.{ℕ, arith, ◌∙◌, sym, subst, take}
use Rattle.s38_disk.specs.Blocks.{after_calls, synced_state}
use Rattle.s38_disk.specs.Memory.{IsDurable}
use Rattle.s38_disk.specs.declared.block.Block.{Block}
use Rattle.s38_disk.proofs.Kept.{durable_at, none_until}
use Rattle.s38_disk.proofs.replay.kept_from.Goals as goal
use Rattle.s38_disk.proofs.replay.kept_from.Goals.{then-is_good_sync, else-is_good_sync}

pub loop-k-preserved : goal.loop-k-preserved
loop-k-preserved c =
    let i = c.loop-k.invariant in
    elim c.if-is_good_sync.branch [
      | then-is_good_sync w ↦ record {
        within = omega (arith, w.kept-is);
        last = λ k d le lt. absurd (omega (arith, w.kept-is, le, lt));
        durable = subst (λ n. (blocks : ℕ → Block) → IsDurable (after_calls (synced_state blocks) (take n c.args.calls.now))) (sym w.kept-is) (durable_at c.args.calls.now c.loop-k.k _ c.loop-k-test.true (sym c.is_good_sync.ensures ∙ w.if-is_good_sync.true));
      }
      | else-is_good_sync w ↦ record {
        within = omega (arith, w.kept-is, i.within);
        last = λ k d le lt. none_until c.args.calls.now c.loop-k.kept c.loop-k.k _ c.loop-k-test.true i.last (sym c.is_good_sync.ensures ∙ w.if-is_good_sync.false) k d (omega (arith, w.kept-is, le)) lt;
        durable = subst (λ n. (blocks : ℕ → Block) → IsDurable (after_calls (synced_state blocks) (take n c.args.calls.now))) (sym w.kept-is) i.durable;
      }
    ]
