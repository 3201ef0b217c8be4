use Rattle.std.proofs.Common.{refl, ◌≡◌, ◌+◌, ◌∙◌, ap, arith, length, take}
use Rattle.std.proofs.lemmas.List.{take_all}
use Rattle.s38_disk.specs.Blocks.{DiskState, after_calls}
use Rattle.s38_disk.specs.Moves.{Near}
use Rattle.s38_disk.proofs.CostLaws.{costs_nothing, costs_sync, costs_then, costs_within, costs_write}
use Rattle.s38_disk.proofs.Runs.{write_near, sync_near, near_then, weaker, step_at, at_one, stays, now_at}
use Rattle.s38_redo_log.specs.Store.{entries_written, targets}
use Rattle.s38_redo_log.proofs.Writes.{step_more, targets_at}
use Rattle.s38_redo_log.proofs.phases.write_homes.Goals as goal

pub loop-slot-init : goal.loop-slot-init
loop-slot-init g c = record {
  moves = stays _ _;
  cost = costs_nothing 0 0 refl;
  done = λ s t is at i. ap (λ (u : DiskState). u.now i) (at_one _ t s at is);
  count = refl;
}

pub returns-in_err-write-clause-moves : goal.returns-in_err-write-clause-moves
returns-in_err-write-clause-moves g c =
    let A = targets c.args.slots.now in
    weaker (length c.args.slots.now + 1) (Near A) (near_then A c.loop-slot.invariant.moves (write_near A c.write.ensures.notes c.write.ensures.cause.later (targets_at c.args.slots.now c.loop-slot.slot-index _ c.loop-slot-test.true))) (omega arith) (λ s u is near. near)

pub returns-in_err-write-clause-cost : goal.returns-in_err-write-clause-cost
returns-in_err-write-clause-cost g c = costs_within (length c.args.slots.now) 1 (costs_then c.loop-slot.invariant.cost (costs_write c.write.ensures.notes)) (omega arith) (omega arith)

pub loop-slot-preserved : goal.loop-slot-preserved
loop-slot-preserved g c =
    let A = targets c.args.slots.now in
    record {
      moves = near_then A c.loop-slot.invariant.moves (write_near A c.write.ensures.notes c.write.ensures.cause.later (targets_at c.args.slots.now c.loop-slot.slot-index _ c.loop-slot-test.true));
      cost = costs_then c.loop-slot.invariant.cost (costs_write c.write.ensures.notes);
      done = λ s t is at i.
          let mid = now_at c.loop-slot.invariant.moves s is in
          let next = step_at c.in_ok-write.ensures.notes _ mid in
          let here = c.loop-slot.invariant.done s _ is mid in
          ap (λ (u : DiskState). u.now i) (at_one _ t _ at next) ∙ step_more c.args.slots.now c.loop-slot.slot-index _ (after_calls s c.loop-slot.invariant.moves.calls).now s.now i c.loop-slot-test.true (here i);
      count = c.in_ok-write.ensures.count ∙ c.loop-slot.invariant.count;
    }

pub returns-in_err-sync-clause-moves : goal.returns-in_err-sync-clause-moves
returns-in_err-sync-clause-moves g c =
    let A = targets c.args.slots.now in
    weaker (length c.args.slots.now + 1) (Near A) (near_then A c.loop-slot.invariant.moves (sync_near A c.sync.ensures.notes c.sync.ensures.cause.later)) (omega arith) (λ s u is near. near)

pub returns-clause-moves : goal.returns-clause-moves
returns-clause-moves g c =
    let A = targets c.args.slots.now in
    weaker (length c.args.slots.now + 1) (Near A) (near_then A c.loop-slot.invariant.moves (sync_near A c.sync.ensures.notes c.sync.ensures.cause.later)) (omega arith) (λ s u is near. near)

pub returns-in_err-sync-clause-cost : goal.returns-in_err-sync-clause-cost
returns-in_err-sync-clause-cost g c = costs_within (length c.args.slots.now) 1 (costs_then c.loop-slot.invariant.cost (costs_sync c.sync.ensures.notes)) (omega arith) (omega arith)

pub returns-clause-cost : goal.returns-clause-cost
returns-clause-cost g c = costs_within (length c.args.slots.now) 1 (costs_then c.loop-slot.invariant.cost (costs_sync c.sync.ensures.notes)) (omega arith) (omega arith)

pub returns-clause-done : goal.returns-clause-done
returns-clause-done g c s t is at =
    let mid = now_at c.loop-slot.invariant.moves s is in
    let last = at_one _ t _ at (step_at c.in_ok-sync.ensures.notes _ mid) in
    let here = c.loop-slot.invariant.done s _ is mid in
    let whole : take c.loop-slot.slot-index c.args.slots.now ≡ c.args.slots.now = take_all c.loop-slot.slot-index c.args.slots.now (omega arith) in
    (λ i. ap (λ (u : DiskState). u.pending i) last, λ i. ap (λ (u : DiskState). u.now i) last ∙ here i ∙ ap (λ es. entries_written es s.now i) whole)
