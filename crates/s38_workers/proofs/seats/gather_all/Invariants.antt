use Rattle.std.proofs.Common.{length}
use Rattle.s38_workers.specs.Asking.{WasStopped}
use Rattle.s38_workers.specs.Runs.{AreGathered}
use Rattle.s38_workers.proofs.seats.gather_all.Given as goal

abbrev pub invariant-loop-runner : goal.invariant-loop-runner
invariant-loop-runner g l =
    let S = g.M.Stepper in
    AreGathered (WasStopped S.is_sound S.origin S.steps l.fn.turn.machine) l.fn.turn l.made l.jobs l.initial.runners.items l.runners.items l.seat

abbrev pub decreases-loop-runner : goal.decreases-loop-runner
decreases-loop-runner g l = length l.runners.items
