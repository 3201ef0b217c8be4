use Rattle.std.proofs.Common.{◌≡◌}
use Rattle.s38_run.specs.Running.{turns_left}
use Rattle.s38_run.proofs.JobLaws.{ComesOn}
use Rattle.s38_run.proofs.jobs.take_turns.Given as goal

abbrev pub invariant-loop-alloc : goal.invariant-loop-alloc
invariant-loop-alloc g l =
    let S = g.M.RunMachine in
    ComesOn g.P.Picker.answer g.P.Picker.after l.fn.picker (S.run l.fn.machine) l.made l.jobs (S.run l.machine) l.states.items l.ready.items l.picker
    × (S.is_sound l.machine × (S.is_going l.machine × (S.origin l.machine ≡ S.origin l.fn.machine)))

abbrev pub decreases-loop-alloc : goal.decreases-loop-alloc
decreases-loop-alloc g l = turns_left l.jobs l.states.items l.ready.items
