use Rattle.s38_workers.proofs.passes.fault_of.Given as goal

abbrev pub invariant-loop-runner : goal.invariant-loop-runner
invariant-loop-runner g l = Unit {0}
