use Rattle.std.proofs.Common.{rules, ◌≡◌, ◌≤◌, length, ◌∙◌, sym, ap, subst}
use Rattle.s38_turn.specs.Lists.{empty_lists}
use Rattle.s38_turn.specs.Rule.{IsOneOf}
use Rattle.s38_workers.specs.Asking.{WasStopped}
use Rattle.s38_workers.specs.Runs.{AreLeft, IsNextOf}
use Rattle.s38_workers.proofs.ListLaws.{first_left}
use Rattle.s38_workers.proofs.NoteLaws.{if_call}
use Rattle.s38_workers.proofs.RunLaws.{all_by_program, all_ran, halted, next_of}
use Rattle.s38_workers.proofs.jobs.run_jobs.Goals as goal

pub all_seated-requires-clause-left : goal.all_seated-requires-clause-left
all_seated-requires-clause-left g c =
    let e = c.in-Ok-new.ensures in
    let people = c.in-Ok-new.turn.processes in
    subst (AreLeft people 0) (sym (e.lists ∙ ap empty_lists (sym e.processes))) (first_left people)

pub returns-in-Ok-new-clause-by_program : goal.returns-in-Ok-new-clause-by_program
returns-in-Ok-new-clause-by_program g c =
    let S = g.M.Stepper in
    all_by_program (WasStopped S.is_sound S.origin S.steps c.in-Ok-new.turn.machine) c.args.made.now c.args.jobs.now c.passes_of-end.new.runners.items (S.history c.closed.result) (S.stopped c.closed.result) (c.passes_of-end.ensures.count ∙ c.all_seated.ensures.count) c.closed.ensures.stands

pub returns-in-Ok-new-clause-complete : goal.returns-in-Ok-new-clause-complete
returns-in-Ok-new-clause-complete g c e =
    let S = g.M.Stepper in
    all_ran (WasStopped S.is_sound S.origin S.steps c.in-Ok-new.turn.machine) c.args.made.now c.args.jobs.now c.passes_of-end.new.runners.items (S.history c.closed.result) (S.stopped c.closed.result) (c.passes_of-end.ensures.count ∙ c.all_seated.ensures.count) c.closed.ensures.stands
    (c.passes_of-end.ensures.complete e)

pub returns-in-Ok-new-clause-stopped : goal.returns-in-Ok-new-clause-stopped
returns-in-Ok-new-clause-stopped g c e =
    let S = g.M.Stepper in
    subst (λ m. WasStopped S.is_sound S.origin S.steps m) c.in-Ok-new.ensures.machine
    (halted (WasStopped S.is_sound S.origin S.steps c.in-Ok-new.turn.machine) c.args.made.now c.args.jobs.now c.passes_of-end.new.runners.items (S.history c.closed.result) (S.stopped c.closed.result) (c.passes_of-end.ensures.count ∙ c.all_seated.ensures.count) c.closed.ensures.stands
    c.requires.made (c.passes_of-end.ensures.stopped e))

pub returns-in-Ok-new-clause-asked : goal.returns-in-Ok-new-clause-asked
returns-in-Ok-new-clause-asked g c =
    let S = g.M.Stepper in
    let m = c.closed.result in
    let people : c.in-Ok-new.turn.processes ≡ length c.args.jobs.now = search rules in
    if_call (S.stopped m) (λ call. IsOneOf c.in-Ok-new.turn.processes call.0) (λ call. IsNextOf c.args.made.now c.args.jobs.now (S.history m) call) c.closed.ensures.named
    (λ call is one. next_of (WasStopped S.is_sound S.origin S.steps c.in-Ok-new.turn.machine) c.args.made.now c.args.jobs.now c.passes_of-end.new.runners.items (S.history m) (S.stopped m) (c.passes_of-end.ensures.count ∙ c.all_seated.ensures.count) c.closed.ensures.stands
    call is one.0 (subst (λ n. call.0 ≤ n) people one.1))
