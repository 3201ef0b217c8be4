use Rattle.std.proofs.Common.{◌+◌, ◌/◌, ◌∙◌, ap, refl, arith, length}
use Rattle.s38_disk.specs.Blocks.{DiskState, after_calls}
use Rattle.s38_disk.specs.Moves.{Near}
use Rattle.s38_disk.proofs.CostLaws.{costs_nothing, costs_then, costs_within, costs_write}
use Rattle.s38_disk.proofs.Runs.{write_near, near_then, weaker, step_at, at_one, stays, now_at}
use Rattle.s38_redo_log.specs.Phases.{block_between}
use Rattle.s38_redo_log.proofs.LogLemmas.{between_in, data_more}
use Rattle.s38_redo_log.proofs.log.write_data.Goals as goal

pub loop-k-init : goal.loop-k-init
loop-k-init g c = record { moves = stays _ _; cost = costs_nothing 0 0 refl; done = λ s t is at i le. absurd (omega arith); count = refl }

pub returns-in_err-write-clause-moves : goal.returns-in_err-write-clause-moves
returns-in_err-write-clause-moves g c =
    let n = length c.args.slots.now in
    let A = block_between (3 + n / 132) (3 + n / 132 + n) in
    weaker n (Near A) (near_then A c.loop-k.invariant.moves (write_near A c.write.ensures.notes c.write.ensures.cause.later (between_in (3 + n / 132) (3 + n / 132 + n) _ (omega arith) (omega arith)))) (omega arith) (λ s u is near. near)

pub returns-in_err-write-clause-cost : goal.returns-in_err-write-clause-cost
returns-in_err-write-clause-cost g c = costs_within (length c.args.slots.now) 0 (costs_then c.loop-k.invariant.cost (costs_write c.write.ensures.notes)) (omega arith) (omega arith)

pub loop-k-preserved : goal.loop-k-preserved
loop-k-preserved g c =
    let n = length c.args.slots.now in
    let A = block_between (3 + n / 132) (3 + n / 132 + n) in
    record {
      moves = near_then A c.loop-k.invariant.moves (write_near A c.write.ensures.notes c.write.ensures.cause.later (between_in (3 + n / 132) (3 + n / 132 + n) _ (omega arith) (omega arith)));
      cost = costs_then c.loop-k.invariant.cost (costs_write c.write.ensures.notes);
      done = λ s t is at i le.
          let mid = now_at c.loop-k.invariant.moves s is in
          let next = step_at c.in_ok-write.ensures.notes _ mid in
          let here = c.loop-k.invariant.done s _ is mid in
          ap (λ (u : DiskState). u.now (3 + n / 132 + i)) (at_one _ t _ at next) ∙ data_more c.args.slots.now (3 + n / 132) c.loop-k.k (after_calls s c.loop-k.invariant.moves.calls).now _ here refl i le;
      count = c.in_ok-write.ensures.count ∙ c.loop-k.invariant.count;
    }
