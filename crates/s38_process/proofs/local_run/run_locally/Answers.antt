use Rattle.std.proofs.Common.{ap, arith}
use Rattle.s38_process.specs.Process.{ProcessState}
use Rattle.s38_process.specs.Progress.{process_state}
use Rattle.s38_process.proofs.SettleLaws.{comes_to_rest, goes_next, same_rest}
use Rattle.s38_process.proofs.local_run.run_locally.Goals as goal

pub steps-smaller : goal.steps-smaller
steps-smaller c =
    let d = process_state c.steps.invocations c.args.budget c.steps.progress in
    let e = process_state c.step.new.invocations c.args.budget c.step.new.progress in
    let next = goes_next d e c.in-Ok-true.field-0 c.in-Ok-true.ensures.more c.in-Ok-true.field-0-test c.in-Ok-true.ensures.ok in
    omega (arith, next.done, next.room)

pub steps-preserved : goal.steps-preserved
steps-preserved c =
    let d = process_state c.steps.invocations c.args.budget c.steps.progress in
    let e = process_state c.step.new.invocations c.args.budget c.step.new.progress in
    let b = process_state c.args.invocations.now c.args.budget c.args.progress.now in
    let next = goes_next d e c.in-Ok-true.field-0 c.in-Ok-true.ensures.more c.in-Ok-true.field-0-test c.in-Ok-true.ensures.ok in
    (same_rest d e b c.in-Ok-true.ensures.ok c.steps.invariant.0, omega (arith, next.done, next.room))

pub returns-in-Ok-false-clause-ok : goal.returns-in-Ok-false-clause-ok
returns-in-Ok-false-clause-ok c =
    let d = process_state c.steps.invocations c.args.budget c.steps.progress in
    let e = process_state c.step.new.invocations c.args.budget c.step.new.progress in
    let b = process_state c.args.invocations.now c.args.budget c.args.progress.now in
    (comes_to_rest d e b c.in-Ok-false.field-0 c.in-Ok-false.ensures.more c.in-Ok-false.field-0-test c.in-Ok-false.ensures.ok c.steps.invariant.0).1

pub returns-in-Ok-false-clause-same : goal.returns-in-Ok-false-clause-same
returns-in-Ok-false-clause-same c =
    let d = process_state c.steps.invocations c.args.budget c.steps.progress in
    let e = process_state c.step.new.invocations c.args.budget c.step.new.progress in
    let b = process_state c.args.invocations.now c.args.budget c.args.progress.now in
    same_rest d e b c.in-Ok-false.ensures.ok c.steps.invariant.0

pub returns-in-Ok-false-clause-within : goal.returns-in-Ok-false-clause-within
returns-in-Ok-false-clause-within c =
    let d = process_state c.steps.invocations c.args.budget c.steps.progress in
    let e = process_state c.step.new.invocations c.args.budget c.step.new.progress in
    let b = process_state c.args.invocations.now c.args.budget c.args.progress.now in
    let same = (comes_to_rest d e b c.in-Ok-false.field-0 c.in-Ok-false.ensures.more c.in-Ok-false.field-0-test c.in-Ok-false.ensures.ok c.steps.invariant.0).0 in
    omega (arith, ap (λ (x : ProcessState). x.done) same, c.steps.invariant.1)
