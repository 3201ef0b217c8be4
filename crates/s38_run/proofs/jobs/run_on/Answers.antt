use Rattle.s38_run.proofs.JobLaws.{between_begun, none_yet}
use Rattle.s38_run.proofs.jobs.run_on.Goals as goal

pub returns-in-Err-clause-so_far : goal.returns-in-Err-clause-so_far
returns-in-Err-clause-so_far g c =
    none_yet g.P.Picker.answer g.P.Picker.after c.args.picker.now c.args.made.now c.args.jobs.now (g.M.RunMachine.run c.args.machine.now) c.requires.begun

pub take_turns-requires-clause-between : goal.take_turns-requires-clause-between
take_turns-requires-clause-between g c =
    between_begun c.args.made.now c.args.jobs.now (g.M.RunMachine.run c.args.machine.now) c.in-Ok-unbegun.states.items c.ready_list.new.into.items c.requires.made c.requires.begun c.in-Ok-unbegun.ensures c.in-Ok.ensures
