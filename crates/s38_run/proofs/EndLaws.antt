-- What the end of a run says of how it was made.
use Rattle.std.proofs.Common.{◌≡◌, refl, ap, ◌∙◌}
use Rattle.std.specs.Prelude.{Result, Ok, Err, IsErrOf, OnOk, ⊤}
use Rattle.s38_code.specs.declared.step.StepFault.{StepFault}
use Rattle.s38_code.specs.declared.step.StepFault.TheVariants as faults
use Rattle.s38_run.specs.declared.run_end.RunEnd.TheVariants.{Complete, Stopped}
use Rattle.s38_run.specs.Ends.{end_of}

pub of_complete : (run : Result ⊤ StepFault) (P : Type 0) → end_of run ≡ Complete → OnOk run P → P
of_complete (Ok done) P is h = h
of_complete (Err faults.Stopped) P is h = cc
of_complete (Err faults.NoMemory) P is h = cc

pub of_stopped : (run : Result ⊤ StepFault) → end_of run ≡ Stopped → IsErrOf run faults.Stopped
of_stopped (Ok done) is = cc
of_stopped (Err faults.Stopped) is = refl
of_stopped (Err faults.NoMemory) is = cc

same_fault : {U E : Type 0} (a b : E) → IsErrOf {T = U} {E = E} (Err a) b → a ≡ b
same_fault a b e = cc

-- a fault that is handed on is that of the call
pub handed_on : {T U E : Type 0} (call : Result T E) (fault wanted : E) → call ≡ Err fault → IsErrOf {T = U} {E = E} (Err fault) wanted → IsErrOf call wanted
handed_on call fault wanted is stop = is ∙ ap (λ x. Err x) (same_fault fault wanted stop)
