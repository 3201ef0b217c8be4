use Rattle.s38_workers.specs.Asking.{WasStopped}
use Rattle.s38_workers.specs.Going.{IsFurther}
use Rattle.s38_workers.proofs.going.go_far.Given as goal

abbrev pub invariant-loop : goal.invariant-loop
invariant-loop g l = let S = g.M.Stepper in IsFurther (WasStopped S.is_sound S.origin S.steps l.fn.turn.machine) l.fn.turn l.made l.jobs l.initial.runner l.runner
