use Rattle.std.proofs.Common.{arith}
use Rattle.s38_code.specs.declared.step.StepFault.TheVariants.{Stopped}
use Rattle.s38_run.proofs.EndLaws.{handed_on}
use Rattle.s38_run.proofs.TurnLaws.{came_off, came_off_after, came_to_halt, going, may_ask, took_count, went_listed}
use Rattle.s38_run.proofs.ListedJobs.{at_job, read_listed, within_jobs}
use Rattle.s38_run.proofs.jobs.go_on.Goals as goal

pub overflow_sub-at : goal.overflow_sub-at
overflow_sub-at g c =
    let within = within_jobs c.args.made.now c.args.jobs.now (g.M.RunMachine.run c.args.machine.now) c.args.states.now.items c.args.ready.now.items c.args.place c.index-number.result.now
    c.requires.between (read_listed c.args.ready.now.items c.args.place c.index-number.result.now (omega arith) c.index-number.ensures) in
    omega (arith, within.0)

pub index_mut-requires : goal.index_mut-requires
index_mut-requires g c =
    let within = within_jobs c.args.made.now c.args.jobs.now (g.M.RunMachine.run c.args.machine.now) c.args.states.now.items c.args.ready.now.items c.args.place c.index-number.result.now
    c.requires.between (read_listed c.args.ready.now.items c.args.place c.index-number.result.now (omega arith) c.index-number.ensures) in
    omega (arith, within.1, c.requires.between.count_states)

pub bounds-jobs-at : goal.bounds-jobs-at
bounds-jobs-at g c =
    let within = within_jobs c.args.made.now c.args.jobs.now (g.M.RunMachine.run c.args.machine.now) c.args.states.now.items c.args.ready.now.items c.args.place c.index-number.result.now
    c.requires.between (read_listed c.args.ready.now.items c.args.place c.index-number.result.now (omega arith) c.index-number.ensures) in
    within.1

pub bounds-made-at : goal.bounds-made-at
bounds-made-at g c =
    let within = within_jobs c.args.made.now c.args.jobs.now (g.M.RunMachine.run c.args.machine.now) c.args.states.now.items c.args.ready.now.items c.args.place c.index-number.result.now
    c.requires.between (read_listed c.args.ready.now.items c.args.place c.index-number.result.now (omega arith) c.index-number.ensures) in
    omega (arith, within.1, c.requires.between.count_made)

pub take_turn-requires-clause-may : goal.take_turn-requires-clause-may
take_turn-requires-clause-may g c =
    let at = at_job c.args.made.now c.args.jobs.now (g.M.RunMachine.run c.args.machine.now) c.args.states.now.items c.args.ready.now.items c.args.place c.index-number.result.now
    c.index-jobs-at.result c.index-made-at.result c.index_mut.result.now c.requires.between (omega arith) c.index-number.ensures c.index-jobs-at.is c.index-made-at.is c.index_mut.ensures.value in
    may_ask at

pub take_turn-requires-clause-open : goal.take_turn-requires-clause-open
take_turn-requires-clause-open g c =
    let at = at_job c.args.made.now c.args.jobs.now (g.M.RunMachine.run c.args.machine.now) c.args.states.now.items c.args.ready.now.items c.args.place c.index-number.result.now
    c.index-jobs-at.result c.index-made-at.result c.index_mut.result.now c.requires.between (omega arith) c.index-number.ensures c.index-jobs-at.is c.index-made-at.is c.index_mut.ensures.value in
    going at

pub returns-in-Err-clause-came_off : goal.returns-in-Err-clause-came_off
returns-in-Err-clause-came_off g c =
    let at = at_job c.args.made.now c.args.jobs.now (g.M.RunMachine.run c.args.machine.now) c.args.states.now.items c.args.ready.now.items c.args.place c.index-number.result.now
    c.index-jobs-at.result c.index-made-at.result c.index_mut.result.now c.requires.between (omega arith) c.index-number.ensures c.index-jobs-at.is c.index-made-at.is c.index_mut.ensures.value in
    came_off at (g.M.RunMachine.run c.take_turn.new.machine) c.in-Err.ensures.broke

pub returns-in-Err-clause-stopped : goal.returns-in-Err-clause-stopped
returns-in-Err-clause-stopped g c stop =
    let at = at_job c.args.made.now c.args.jobs.now (g.M.RunMachine.run c.args.machine.now) c.args.states.now.items c.args.ready.now.items c.args.place c.index-number.result.now
    c.index-jobs-at.result c.index-made-at.result c.index_mut.result.now c.requires.between (omega arith) c.index-number.ensures c.index-jobs-at.is c.index-made-at.is c.index_mut.ensures.value in
    came_to_halt at (g.M.RunMachine.run c.take_turn.new.machine) (g.M.RunMachine.stopped c.take_turn.new.machine) (c.take_turn.ensures.stopped (handed_on c.take_turn.result c.in-Err.fault Stopped c.in-Err.is stop))

pub update-requires-clause-few : goal.update-requires-clause-few
update-requires-clause-few g c =
    let at = at_job c.args.made.now c.args.jobs.now (g.M.RunMachine.run c.args.machine.now) c.args.states.now.items c.args.ready.now.items c.args.place c.index-number.result.now
    c.index-jobs-at.result c.index-made-at.result c.index_mut.result.now c.requires.between (omega arith) c.index-number.ensures c.index-jobs-at.is c.index-made-at.is c.index_mut.ensures.value in
    omega (arith, took_count at c.in-Ok.outcome (g.M.RunMachine.run c.take_turn.new.machine) c.take_turn.new.state c.in-Ok.ensures.took, c.requires.few)

pub returns-in-Err-update-clause-came_off : goal.returns-in-Err-update-clause-came_off
returns-in-Err-update-clause-came_off g c =
    let at = at_job c.args.made.now c.args.jobs.now (g.M.RunMachine.run c.args.machine.now) c.args.states.now.items c.args.ready.now.items c.args.place c.index-number.result.now
    c.index-jobs-at.result c.index-made-at.result c.index_mut.result.now c.requires.between (omega arith) c.index-number.ensures c.index-jobs-at.is c.index-made-at.is c.index_mut.ensures.value in
    came_off_after at c.in-Ok.outcome (g.M.RunMachine.run c.take_turn.new.machine) c.take_turn.new.state c.in-Ok.ensures.took

pub returns-in-Ok-update-clause-went : goal.returns-in-Ok-update-clause-went
returns-in-Ok-update-clause-went g c =
    let at = at_job c.args.made.now c.args.jobs.now (g.M.RunMachine.run c.args.machine.now) c.args.states.now.items c.args.ready.now.items c.args.place c.index-number.result.now
    c.index-jobs-at.result c.index-made-at.result c.index_mut.result.now c.requires.between (omega arith) c.index-number.ensures c.index-jobs-at.is c.index-made-at.is c.index_mut.ensures.value in
    went_listed at c.in-Ok.outcome (g.M.RunMachine.run c.take_turn.new.machine) c.take_turn.new.state c.somebody_waits-waited.result c.update.new.ready.items
    c.in-Ok.ensures.took c.somebody_waits-waited.ensures c.in-Ok-update.ensures
