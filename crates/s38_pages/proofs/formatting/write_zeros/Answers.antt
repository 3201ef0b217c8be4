use Rattle.std.proofs.Common.{refl, ◌+◌, ◌-◌, ◌∙◌, ap, arith}
use Rattle.s38_disk.specs.Blocks.{DiskState, after_calls}
use Rattle.s38_disk.specs.Moves.{Near}
use Rattle.s38_disk.proofs.Runs.{write_near, sync_near, near_then, weaker, step_at, at_one, stays, now_at}
use Rattle.s38_redo_log.specs.Phases.{block_between}
use Rattle.s38_redo_log.proofs.LogLemmas.{between_in}
use Rattle.s38_pages.proofs.Making.{blank_more, blank_same}
use Rattle.s38_pages.proofs.formatting.write_zeros.Goals as goal

pub loop-at-init : goal.loop-at-init
loop-at-init g c = record { moves = stays _ _; done = λ s t is at i low le. absurd (omega arith); count = refl }

pub returns-in_err-write-clause-moves : goal.returns-in_err-write-clause-moves
returns-in_err-write-clause-moves g c =
    let A = block_between 1 c.args.size in
    weaker c.args.size (Near A) (near_then A c.loop-at.invariant.moves (write_near A c.write.ensures.notes c.write.ensures.cause.later (between_in 1 c.args.size c.loop-at.at (omega arith) (omega arith)))) (omega arith) (λ s u is near. near)

pub loop-at-preserved : goal.loop-at-preserved
loop-at-preserved g c =
    let A = block_between 1 c.args.size in
    record {
      moves = weaker (c.loop-at.at + 1 - 1) (Near A) (near_then A c.loop-at.invariant.moves (write_near A c.write.ensures.notes c.write.ensures.cause.later (between_in 1 c.args.size c.loop-at.at (omega arith) (omega arith)))) (omega arith) (λ s u is near. near);
      done = λ s t is at i low le.
          let mid = now_at c.loop-at.invariant.moves s is in
          let next = step_at c.in_ok-write.ensures.notes _ mid in
          let here = c.loop-at.invariant.done s _ is mid in
          blank_same (at_one _ t _ at next) i (blank_more c.loop-at.at _ (after_calls s c.loop-at.invariant.moves.calls).now (c.zero_block-zeros.ensures.free, c.zero_block-zeros.ensures.down) here i low le);
      count = c.in_ok-write.ensures.count ∙ c.loop-at.invariant.count;
    }

pub returns-in_err-sync-clause-moves : goal.returns-in_err-sync-clause-moves
returns-in_err-sync-clause-moves g c =
    let A = block_between 1 c.args.size in
    weaker c.args.size (Near A) (near_then A c.loop-at.invariant.moves (sync_near A c.sync.ensures.notes c.sync.ensures.cause.later)) (omega arith) (λ s u is near. near)

pub returns-clause-moves : goal.returns-clause-moves
returns-clause-moves g c =
    let A = block_between 1 c.args.size in
    weaker c.args.size (Near A) (near_then A c.loop-at.invariant.moves (sync_near A c.sync.ensures.notes c.sync.ensures.cause.later)) (omega arith) (λ s u is near. near)

pub returns-clause-done : goal.returns-clause-done
returns-clause-done g c s t is at =
    let mid = now_at c.loop-at.invariant.moves s is in
    let last = at_one _ t _ at (step_at c.in_ok-sync.ensures.notes _ mid) in
    let here = c.loop-at.invariant.done s _ is mid in
    (λ i. ap (λ (u : DiskState). u.pending i) last, λ i low le. blank_same last i (here i low (omega arith)))
