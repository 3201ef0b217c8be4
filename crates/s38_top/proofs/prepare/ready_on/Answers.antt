use Rattle.std.proofs.Common.{◌∙◌, sym}
use Rattle.s38_top.proofs.BegunLaws.{checked_made, ready_of}
use Rattle.s38_top.proofs.SafeLaws.{keeps_given}
use Rattle.s38_top.proofs.prepare.ready_on.Goals as goal

pub start_over-requires-clause-has : goal.start_over-requires-clause-has
start_over-requires-clause-has g c = c.each_job_has_its_template.ensures c.requires.spelled.0 c.args.checked.deck c.requires.spelled.1

pub start_over-requires-clause-few : goal.start_over-requires-clause-few
start_over-requires-clause-few g c = c.requires.spelled.1.few_jobs

pub start_over-requires-clause-made : goal.start_over-requires-clause-made
start_over-requires-clause-made g c = checked_made c.requires.spelled.0 c.args.checked.deck c.requires.spelled.1

pub start_over-requires-clause-faultless : goal.start_over-requires-clause-faultless
start_over-requires-clause-faultless g c = c.in-Ok.ensures.faultless.faults ∙ sym c.in-Ok.ensures.faultless.start

pub returns-in-Ok-start_over-clause-ready : goal.returns-in-Ok-start_over-clause-ready
returns-in-Ok-start_over-clause-ready g c =
    let e = c.in-Ok.ensures in
    let begun = c.in-Ok-start_over.ensures in
    ready_of (g.D.Disk.view c.args.disk) c.in-Ok-start_over.started.deck c.in-Ok-start_over.started.made.items c.in-Ok-start_over.started.machine c.in-Ok.store.vault c.in-Ok.store.objects c.in-Ok.store.room.room
    begun.begun begun.vault begun.objects begun.room e.opening e.restarts e.opened e.holds e.faultless e.parts e.placed e.goes e.during

pub returns-in-Err-start_over-clause-safe : goal.returns-in-Err-start_over-clause-safe
returns-in-Err-start_over-clause-safe g c = keeps_given (g.D.Disk.view c.args.disk) c.in-Ok.store.vault.disk (g.D.Disk.view c.in-Err-start_over.disk) c.in-Err-start_over.ensures.disk c.in-Ok.ensures.during
