use Rattle.std.proofs.Common.{ap, refl, arith}
use Rattle.s38_disk.specs.Blocks.{DiskState}
use Rattle.s38_disk.specs.Moves.{Near}
use Rattle.s38_disk.proofs.CostLaws.{costs_sync, costs_then, costs_within, costs_write}
use Rattle.s38_disk.proofs.Runs.{write_near, sync_near, near_then, weaker, step_at, at_one}
use Rattle.s38_redo_log.specs.Phases.{gate}
use Rattle.s38_redo_log.proofs.CommitLemmas.{moment_rises}
use Rattle.s38_redo_log.proofs.phases.write_gate.Goals as goal

pub returns-in_err-write-clause-moves : goal.returns-in_err-write-clause-moves
returns-in_err-write-clause-moves g c = weaker 2 (Near gate) (write_near gate c.write.ensures.notes c.write.ensures.cause.later refl) (omega arith) (λ s u is near. near)

pub returns-in_err-sync-clause-moves : goal.returns-in_err-sync-clause-moves
returns-in_err-sync-clause-moves g c = near_then gate (write_near gate c.write.ensures.notes c.write.ensures.cause.later refl) (sync_near gate c.sync.ensures.notes c.sync.ensures.cause.later)

pub returns-clause-moves : goal.returns-clause-moves
returns-clause-moves g c = near_then gate (write_near gate c.write.ensures.notes c.write.ensures.cause.later refl) (sync_near gate c.sync.ensures.notes c.sync.ensures.cause.later)

pub returns-in_err-write-clause-cost : goal.returns-in_err-write-clause-cost
returns-in_err-write-clause-cost g c = costs_within 1 1 (costs_write c.write.ensures.notes) (omega arith) (omega arith)

pub returns-in_err-sync-clause-cost : goal.returns-in_err-sync-clause-cost
returns-in_err-sync-clause-cost g c = costs_then (costs_write c.write.ensures.notes) (costs_sync c.sync.ensures.notes)

pub returns-clause-cost : goal.returns-clause-cost
returns-clause-cost g c = costs_then (costs_write c.write.ensures.notes) (costs_sync c.sync.ensures.notes)

pub returns-clause-done : goal.returns-clause-done
returns-clause-done g c s t is at =
    let mid = step_at c.in_ok-write.ensures.notes s is in
    let last = at_one _ t _ at (step_at c.in_ok-sync.ensures.notes _ mid) in
    (λ i. ap (λ (u : DiskState). u.pending i) last, ap (λ (u : DiskState). u.now) last)

pub returns-clause-rises : goal.returns-clause-rises
returns-clause-rises g c =
    let first = moment_rises c.in_ok-write.ensures.notes in
    let second = moment_rises c.in_ok-sync.ensures.notes in
    omega (arith, first, second)
