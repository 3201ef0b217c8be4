use Rattle.std.proofs.Common.{◌≡◌, All, length}
use Rattle.s38_workers.specs.Asking.{WasStopped}
use Rattle.s38_workers.specs.Going.{IsRunning}
use Rattle.s38_workers.specs.Runs.{AreFurther}
use Rattle.s38_workers.proofs.passes.passes.Given as goal

abbrev pub invariant-loop : goal.invariant-loop
invariant-loop g l =
    let S = g.M.Stepper in
    let Halted = WasStopped S.is_sound S.origin S.steps l.fn.turn.machine in
    All (IsRunning Halted l.fn.turn l.made l.jobs) l.runners × (length l.runners ≡ length l.initial.runners) × AreFurther Halted l.fn.turn l.made l.jobs l.initial.runners l.runners
