-- One turn of the loop in which a process does local instructions.
use Rattle.std.proofs.Common.{◌≡◌, Bool, true, false, sym, ◌∙◌, ap}
use Rattle.s38_local.specs.declared.local_end.LocalEnd.{LocalEnd}
use Rattle.s38_process.specs.Process.{ProcessState}
use Rattle.s38_process.specs.LocalRun.{after_local, after_local_run, alone, local_step, ran}
use Rattle.s38_process.proofs.Alone.{IsNext, settled_step, settled_still, step_next, step_still}

-- where there was a local instruction, it was done
pub goes_next : (d e : ProcessState) (more : Bool) → more ≡ alone d → more ≡ true → e ≡ local_step d → IsNext d e
goes_next d e more is test step = rw step (step_next d (sym is ∙ test))

pub same_rest : (d e b : ProcessState) → e ≡ local_step d → after_local_run d ≡ after_local_run b → after_local_run e ≡ after_local_run b
same_rest d e b step before = ap after_local_run step ∙ settled_step d ∙ before

rests_by : (d e b : ProcessState) → alone d ≡ false → e ≡ local_step d → after_local_run d ≡ after_local_run b → (e ≡ d) × (e ≡ after_local_run b)
rests_by d e b none step before = (step ∙ step_still d none, step ∙ step_still d none ∙ sym (settled_still d none) ∙ before)

-- where there was none, the process rests
pub comes_to_rest : (d e b : ProcessState) (more : Bool) → more ≡ alone d → more ≡ false → e ≡ local_step d → after_local_run d ≡ after_local_run b → (e ≡ d) × (e ≡ after_local_run b)
comes_to_rest d e b more is test step before = rests_by d e b (sym is ∙ test) step before
