-- How a run ends.
use Rattle.std.specs.Prelude.{Result, Ok, Err, ⊤}
use Rattle.s38_code.specs.declared.step.StepFault.{StepFault}
use Rattle.s38_code.specs.declared.step.StepFault.TheVariants as faults
use Rattle.s38_run.specs.declared.run_end.RunEnd.{RunEnd}
use Rattle.s38_run.specs.declared.run_end.RunEnd.TheVariants.{Complete, Stopped, NoMemory}

-- the end of a run that was made, or broken off by a fault
abbrev pub end_of : Result ⊤ StepFault → RunEnd
end_of (Ok done) = Complete
end_of (Err faults.Stopped) = Stopped
end_of (Err faults.NoMemory) = NoMemory
