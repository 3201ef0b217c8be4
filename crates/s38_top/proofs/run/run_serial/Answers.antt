use Rattle.std.proofs.Common.{ap, ◌∙◌}
use Rattle.std.specs.Prelude.{None}
use Rattle.s38_rules.specs.step.Legal.{Run}
use Rattle.s38_rules.specs.state.Opening.{state_of}
use Rattle.s38_run.proofs.JobLaws.{is_begun}
use Rattle.s38_run.proofs.StillLaws.{still_begun, still_from}
use Rattle.s38_top.proofs.WholeRunLaws.{as_many_made, begins_run, few_begun, whole_of_run}
use Rattle.s38_top.specs.Begun.{held_of}
use Rattle.s38_top.specs.Decks.{turns_by}
use Rattle.s38_top.proofs.run.run_serial.Goals as goal

pub serial-machine-requires-clause-sound : goal.serial-machine-requires-clause-sound
serial-machine-requires-clause-sound g c =
    still_begun c.args.started.machine (state_of (held_of c.args.started) c.args.started.machine.state.templates c.as_slice.result.now)
    (begins_run c.args.started c.as_slice.result.now c.requires c.as_slice.ensures.items)

pub serial-machine-requires-clause-begun : goal.serial-machine-requires-clause-begun
serial-machine-requires-clause-begun g c =
    is_begun None (held_of c.args.started) c.args.started.machine.state.templates c.as_slice.result.now c.args.started.machine
    (begins_run c.args.started c.as_slice.result.now c.requires c.as_slice.ensures.items)

pub serial-machine-requires-clause-made : goal.serial-machine-requires-clause-made
serial-machine-requires-clause-made g c = as_many_made c.args.started c.as_slice.result.now c.as_slice-2.result.now c.requires c.as_slice.ensures.items c.as_slice-2.ensures.value

pub serial-machine-requires-clause-few : goal.serial-machine-requires-clause-few
serial-machine-requires-clause-few g c = few_begun c.args.started c.as_slice.result.now c.requires c.as_slice.ensures.items

pub returns-in-Complete : goal.returns-in-Complete
returns-in-Complete g c =
    let begins = begins_run c.args.started c.as_slice.result.now c.requires c.as_slice.ensures.items in
    let e = c.serial-machine.ensures in
    whole_of_run c.args.started (turns_by g.P.Picker.answer g.P.Picker.after c.args.picker.now) c.serial-machine.result.0 c.whole_of.result c.as_slice.result.now c.as_slice-2.result.now
    c.requires c.as_slice.ensures.items c.as_slice-2.ensures.value
    (e.run c.in-Complete.is) (e.begun ∙ ap (λ (r : Run). r.origin) begins) (still_from c.args.started.machine c.serial-machine.result.0 e.sound e.origin) e.picked (e.ran c.in-Complete.is)
    c.whole_of.ensures.deck c.whole_of.ensures.history c.whole_of.ensures.marks c.whole_of.ensures.state c.whole_of.ensures.lawful
