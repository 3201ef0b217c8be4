use Rattle.std.proofs.Common.{◌∙◌, ℕ, length, subst}
use Rattle.s38_command.specs.declared.turns.Turns.TheVariants.{Serial}
use Rattle.s38_rules.specs.state.State.{State}
use Rattle.s38_run.specs.Picked.{Picked}
use Rattle.s38_run.specs.Pickers.{after_picks, number_after, number_answer, picks_of}
use Rattle.s38_run.specs.Whole.{WasHalted}
use Rattle.s38_durable_machine.specs.Seen.{run_of, stopped_of}
use Rattle.s38_top.proofs.BegunLaws.{as_many, few_jobs, halted_stopped, run_begun, same_origin, went_over}
use Rattle.s38_top.proofs.NextLaws.{halted_on}
use Rattle.s38_top.proofs.stored.run_over.Goals as goal

pub serial-machine-requires-clause-begun : goal.serial-machine-requires-clause-begun
serial-machine-requires-clause-begun g c = run_begun c.args.started.deck c.args.started.made.items c.args.started.machine c.requires c.as_slice.result.now c.as_slice.ensures.items

pub serial-machine-requires-clause-made : goal.serial-machine-requires-clause-made
serial-machine-requires-clause-made g c = as_many c.args.started.deck c.args.started.made.items c.args.started.machine c.requires c.as_slice.result.now c.as_slice.ensures.items c.as_slice-2.result.now c.as_slice-2.ensures.value

pub serial-machine-requires-clause-few : goal.serial-machine-requires-clause-few
serial-machine-requires-clause-few g c = few_jobs c.args.started.deck c.args.started.made.items c.args.started.machine c.requires c.as_slice.result.now c.as_slice.ensures.items

pub returns-clause-went : goal.returns-clause-went
returns-clause-went g c =
    let e = c.serial-machine.ensures in
    let y = c.serial-machine.result.0 in
    let made = c.as_slice-2.result.now in
    let jobs = c.as_slice.result.now in
    let begins = c.new-picker.ensures ∙ c.from.ensures in
    let picked = subst (λ (n : ℕ). Picked (picks_of number_answer number_after (length (run_of y).history) n) (run_of y).origin (run_of y).history) begins e.picked in
    went_over c.args.started.deck c.args.started.made.items c.args.started.machine c.requires c.as_slice.result.now c.as_slice.ensures.items
    (Serial c.args.pick) y c.serial-machine.result.1 e.origin c.as_slice-2.result.now c.as_slice-2.ensures.value
    e.sound
    (subst (λ (o : State). Picked (picks_of number_answer number_after (length (run_of y).history) c.args.pick) o (run_of y).history) (same_origin y.ending y.machine)
    picked)
    e.by_program (λ is. (e.going is, e.ran is)) (λ is. let h = e.stopped is in halted_stopped y.ending y.machine.history (h.process, h.event) h.is)
    (λ is.
    halted_on made jobs c.args.pick y.ending y.machine picked e.by_program
    (subst (λ (n : ℕ). WasHalted made jobs (number_answer (after_picks number_after (length (run_of y).history) n)) (run_of y) (stopped_of y)) begins (e.stopped is)))
