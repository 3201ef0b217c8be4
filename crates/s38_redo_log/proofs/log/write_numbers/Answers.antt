use Rattle.std.proofs.Common.{refl, ◌+◌, ◌/◌, ◌∙◌, ap, arith, length}
use Rattle.s38_disk.specs.Blocks.{DiskState, after_calls}
use Rattle.s38_disk.specs.Moves.{Near}
use Rattle.s38_disk.proofs.CostLaws.{costs_nothing, costs_then, costs_within, costs_write}
use Rattle.s38_disk.proofs.Runs.{write_near, near_then, weaker, step_at, at_one, stays, now_at}
use Rattle.s38_redo_log.specs.Store.{log_word}
use Rattle.s38_redo_log.specs.Phases.{block_between}
use Rattle.s38_redo_log.proofs.LogLemmas.{between_in, numbers_more}
use Rattle.s38_redo_log.proofs.log.write_numbers.Goals as goal

pub loop-j-init : goal.loop-j-init
loop-j-init g c = record { moves = stays _ _; cost = costs_nothing 0 0 refl; done = λ s t is at k le. absurd (omega arith); count = refl }

pub returns-in_err-write-clause-moves : goal.returns-in_err-write-clause-moves
returns-in_err-write-clause-moves g c =
    let n = length c.args.slots.now in
    let A = block_between 2 (3 + n / 132) in
    weaker (n / 132 + 1) (Near A) (near_then A c.loop-j.invariant.moves (write_near A c.write.ensures.notes c.write.ensures.cause.later (between_in 2 (3 + n / 132) _ (omega arith) (omega arith)))) (omega arith) (λ s u is near. near)

pub returns-in_err-write-clause-cost : goal.returns-in_err-write-clause-cost
returns-in_err-write-clause-cost g c = costs_within (length c.args.slots.now / 132 + 1) 0 (costs_then c.loop-j.invariant.cost (costs_write c.write.ensures.notes)) (omega arith) (omega arith)

pub loop-j-preserved : goal.loop-j-preserved
loop-j-preserved g c =
    let n = length c.args.slots.now in
    let A = block_between 2 (3 + n / 132) in
    record {
      moves = near_then A c.loop-j.invariant.moves (write_near A c.write.ensures.notes c.write.ensures.cause.later (between_in 2 (3 + n / 132) _ (omega arith) (omega arith)));
      cost = costs_then c.loop-j.invariant.cost (costs_write c.write.ensures.notes);
      done = λ s t is at k le.
          let mid = now_at c.loop-j.invariant.moves s is in
          let next = step_at c.in_ok-write.ensures.notes _ mid in
          let here = c.loop-j.invariant.done s _ is mid in
          ap (λ (u : DiskState). log_word u.now k) (at_one _ t _ at next) ∙ numbers_more c.args.slots.now (after_calls s c.loop-j.invariant.moves.calls).now _ c.loop-j.j here c.number_block.ensures k le;
      count = c.in_ok-write.ensures.count ∙ c.loop-j.invariant.count;
    }
