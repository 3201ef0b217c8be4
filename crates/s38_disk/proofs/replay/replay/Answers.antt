use Rattle.std.proofs.Common.{take, get_or, [], ◌∙◌, ◌≡◌, ◌≤◌, ◌+◌, ℕ, ap, subst, sym, arith, ⊎_elim}
use Rattle.std.proofs.lemmas.Bool.{lt-leb, le-leb, cases_lt}
use Rattle.s38_disk.specs.declared.block.Call.TheVariants.{Wrote}
use Rattle.s38_disk.specs.Blocks.{DiskState, after_calls, blocks_of_list, synced_state}
use Rattle.s38_disk.specs.Memory.{IsDurable, IsWithin, image_by}
use Rattle.s38_disk.proofs.Kept.{within_at, after_more, image_same}
use Rattle.s38_disk.proofs.replay.replay.Goals as goal

pub apply-requires : goal.apply-requires
apply-requires c = subst (λ n. IsWithin n (get_or c.args.calls.now c.loop-k.k (Wrote 0 (record { bytes = [] })))) (sym c.loop-k.invariant.size) (within_at _ c.args.calls.now c.loop-k.k _ c.requires c.loop-k-test.true)

pub loop-k-preserved : goal.loop-k-preserved
loop-k-preserved c =
    let k = c.loop-k.k in
    let kept = c.kept_from-kept.result in
    let fill = c.args.fill in
    let first = synced_state (blocks_of_list c.args.blocks.now) in
    let s = after_calls first (take k c.args.calls.now) in
    let next = after_calls first (take (k + 1) c.args.calls.now) in
    let more = after_more first c.args.calls.now k _ c.loop-k-test.true in
    let i = c.loop-k.invariant in
    let same : k + 1 ≤ kept → (at : ℕ) → blocks_of_list c.apply.new.blocks at ≡ next.now at = λ le at. c.apply.ensures.done (lt-leb kept k (omega (arith, le))) s (i.same (omega (arith, le))) at ∙ ap (λ (u : DiskState). u.now at) (sym more) in
    record {
      size = omega (arith, c.apply.auto.blocks, i.size);
      same = same;
      image = λ le at. ⊎_elim
          (λ lt. let here : kept ≡ k + 1 = omega (arith, lt, le) in
          let durable : IsDurable next = subst (λ n. IsDurable (after_calls first (take n c.args.calls.now))) here (c.kept_from-kept.ensures.durable (blocks_of_list c.args.blocks.now)) in
          same (omega (arith, lt)) at ∙ sym (image_same fill next at (durable at).0 (durable at).1))
          (λ ge. c.apply.ensures.lost (le-leb kept k ge) s (c.kept_from-kept.ensures.last k _ ge c.loop-k-test.true) (i.image ge) at ∙ ap (λ (u : DiskState). image_by fill u at) (sym more))
          (cases_lt k kept);
    }
