use denote.Param.Send.{sendable}
use Rattle.std.proofs.Common.{◌∙◌, sym}
use Rattle.s38_command.specs.declared.turns.Turns.TheVariants.{Workers}
use Rattle.s38_top.proofs.BegunLaws.{as_many, few_jobs, may_ask, none_stopped, over_complete, over_stopped, run_empty, some_entry, went_over}
use Rattle.s38_top.proofs.NextLaws.{shared_on}
use Rattle.s38_top.proofs.SentLaws.{over_send}
use Rattle.s38_top.proofs.stored.run_shared_over.Goals as goal

pub run_jobs-machine-requires-send-M : goal.run_jobs-machine-requires-send-M
run_jobs-machine-requires-send-M g c κs = let s = over_send _ g.D.Disk g.D.Disk-dict c.type_bounds.send-D in search sendable depth 8

pub run_jobs-machine-requires-clause-empty : goal.run_jobs-machine-requires-clause-empty
run_jobs-machine-requires-clause-empty g c κs lives = run_empty c.args.started.deck c.args.started.made.items c.args.started.machine c.requires.begun c.as_slice.result.now c.as_slice.ensures.items

pub run_jobs-machine-requires-clause-going : goal.run_jobs-machine-requires-clause-going
run_jobs-machine-requires-clause-going g c κs lives = none_stopped c.args.started.deck c.args.started.made.items c.args.started.machine c.requires.begun c.as_slice.result.now c.as_slice.ensures.items

pub run_jobs-machine-requires-clause-may : goal.run_jobs-machine-requires-clause-may
run_jobs-machine-requires-clause-may g c κs lives = may_ask c.args.started.deck c.args.started.made.items c.args.started.machine c.requires.begun c.as_slice.result.now c.as_slice.ensures.items

pub run_jobs-machine-requires-clause-made : goal.run_jobs-machine-requires-clause-made
run_jobs-machine-requires-clause-made g c κs lives =
    as_many c.args.started.deck c.args.started.made.items c.args.started.machine c.requires.begun c.as_slice.result.now c.as_slice.ensures.items c.as_slice-2.result.now c.as_slice-2.ensures.value

pub run_jobs-machine-requires-clause-few : goal.run_jobs-machine-requires-clause-few
run_jobs-machine-requires-clause-few g c κs lives = few_jobs c.args.started.deck c.args.started.made.items c.args.started.machine c.requires.begun c.as_slice.result.now c.as_slice.ensures.items

pub returns-clause-went : goal.returns-clause-went
returns-clause-went g c =
    let e = c.run_jobs-machine.ensures in
    let y = c.run_jobs-machine.result.0 in
    went_over c.args.started.deck c.args.started.made.items c.args.started.machine c.requires.begun c.as_slice.result.now c.as_slice.ensures.items
    (Workers c.args.count) y c.end_over-end.result e.origin c.as_slice-2.result.now c.as_slice-2.ensures.value
    e.sound tt e.by_program
    (λ is. let h = over_complete c.ending.result c.run_jobs-machine.result.1 (sym c.end_over-end.ensures ∙ is) in (sym c.ending.ensures ∙ h.0, e.complete h.1))
    (λ is. sym c.ending.ensures ∙ over_stopped c.ending.result c.run_jobs-machine.result.1 (sym c.end_over-end.ensures ∙ is))
    (λ is.
    let stopped = sym c.ending.ensures ∙ over_stopped c.ending.result c.run_jobs-machine.result.1 (sym c.end_over-end.ensures ∙ is) in
    (tt, shared_on c.as_slice-2.result.now c.as_slice.result.now y.ending y.machine stopped (some_entry y.ending y.machine _ _ e.sound.ending stopped) e.by_program e.asked))
