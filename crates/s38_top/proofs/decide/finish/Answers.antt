use Rattle.std.proofs.Common.{◌≡◌, ◌∙◌, All, ap, arith, refl, subst, sym}
use Rattle.s38_disk.specs.Disk.{DiskView, moment_of}
use Rattle.s38_laws_flush.specs.durable.Kept.{AreImages}
use Rattle.s38_objects.specs.Lawful.{IsObjectMap}
use Rattle.s38_laws_images.specs.openings.Closing.{CanClose}
use Rattle.s38_laws_images.specs.readable.Readable.{IsFit}
use Rattle.s38_rules.specs.state.State.{State}
use Rattle.s38_flush.specs.Stepping.{HaveHeaders}
use Rattle.s38_store_file.specs.Crashes.{DuringCall, IsBetween}
use Rattle.s38_durable_machine.proofs.StateLaws.{stored_fit}
use Rattle.s38_top.proofs.OverLaws.{came_kept, came_stopped, left_kept, left_off, reported_kept, reported_stopped}
use Rattle.s38_top.proofs.WentOverLaws.{closes, given_back, going_faultless, run_all, run_on, stopped_rose}
use Rattle.s38_top.specs.Runs.{all_durable_of}
use Rattle.s38_top.specs.declared.outcome.Outcome.TheVariants.{NoMemory}
use Rattle.s38_top.specs.declared.outcome.Whole.{Whole}
use Rattle.s38_top.proofs.decide.finish.Goals as goal

pub of_whole-requires-clause-end : goal.of_whole-requires-clause-end
of_whole-requires-clause-end g c =
    let x = c.args.run.machine in
    let given = given_back x c.end-vault.result.vault c.end-vault-2.result c.end-vault.ensures.vault c.end-vault-2.ensures.vault c.end-vault-2.ensures.watched c.most-most.ensures.limits in
    subst CanClose (sym c.end-vault.ensures.state)
    (closes c.args.turns c.args.run.deck x c.args.run.end c.requires c.end-vault-2.result given (subst (λ (s : State). IsObjectMap s.held) (c.state.view_is ∙ c.end-vault.ensures.state) c.len-objects.ensures.lawful))

pub of_whole-requires-clause-fit : goal.of_whole-requires-clause-fit
of_whole-requires-clause-fit g c = subst (λ (s : State). All IsFit s.held.objects) (sym c.end-vault.ensures.state) (stored_fit c.args.run.machine.machine.state c.requires.sound.state)

pub of_whole-requires-clause-faultless : goal.of_whole-requires-clause-faultless
of_whole-requires-clause-faultless g c =
    let x = c.args.run.machine in
    let given = given_back x c.end-vault.result.vault c.end-vault-2.result c.end-vault.ensures.vault c.end-vault-2.ensures.vault c.end-vault-2.ensures.watched c.most-most.ensures.limits in
    going_faultless c.args.turns c.args.run.deck x c.args.run.end c.requires c.end-vault-2.result given (c.requires.going c.in-Complete.is)

pub returns-in-Complete-clause-came : goal.returns-in-Complete-clause-came
returns-in-Complete-clause-came g c =
    let x = c.args.run.machine in
    let left : Whole = record { deck = c.args.run.deck; history = c.end-vault.result.history; marks = c.end-vault.result.marks; state = c.end-vault.result.state } in
    let given = given_back x c.end-vault.result.vault c.end-vault-2.result c.end-vault.ensures.vault c.end-vault-2.ensures.vault c.end-vault-2.ensures.watched c.most-most.ensures.limits in
    came_kept c.args.turns c.args.run.deck x c.args.run.end c.requires c.end-vault-2.result given (g.D.Disk.view c.of_whole.result.disk) c.of_whole.ensures.placed left
    refl c.end-vault.ensures.history c.end-vault.ensures.marks c.in-Complete.is c.end-vault.ensures.state c.of_whole.ensures.goes c.of_whole.result.outcome c.of_whole.ensures.end

pub returns-in-Complete-clause-left : goal.returns-in-Complete-clause-left
returns-in-Complete-clause-left g c =
    let x = c.args.run.machine in
    let left : Whole = record { deck = c.args.run.deck; history = c.end-vault.result.history; marks = c.end-vault.result.marks; state = c.end-vault.result.state } in
    let new = g.D.Disk.view c.of_whole.result.disk in
    let given = given_back x c.end-vault.result.vault c.end-vault-2.result c.end-vault.ensures.vault c.end-vault-2.ensures.vault c.end-vault-2.ensures.watched c.most-most.ensures.limits in
    left_kept c.args.turns c.args.run.deck x c.args.run.end c.requires c.end-vault-2.result given new c.of_whole.ensures.placed c.restart_laws.ensures c.of_whole.result.outcome
    (reported_kept c.args.turns c.args.run.deck x c.args.run.end c.requires c.end-vault-2.result given new c.of_whole.ensures.placed left refl c.end-vault.ensures.history c.end-vault.ensures.marks c.in-Complete.is c.end-vault.ensures.state
    c.of_whole.ensures.goes c.of_whole.result.outcome c.of_whole.ensures.end)
    (λ not. run_all c.args.turns c.args.run.deck x c.args.run.end c.requires c.end-vault-2.result given c.in-Complete.is)
    c.closing_laws.ensures
    c.in-Complete.is
    (subst (λ (s : State). HaveHeaders (all_durable_of s)) c.end-vault.ensures.state c.of_whole.ensures.headers)
    (subst (λ (s : State). AreImages (all_durable_of s)) c.end-vault.ensures.state c.of_whole.ensures.images)
    c.of_whole.ensures.goes
    (λ m holds. subst (λ (s : State). DuringCall c.end-vault-2.result.disk new (IsBetween new.size m (all_durable_of s) s.held)) c.end-vault.ensures.state (c.of_whole.ensures.during m holds))

pub returns-in-Stopped-clause-came : goal.returns-in-Stopped-clause-came
returns-in-Stopped-clause-came g c =
    let x = c.args.run.machine in
    let left : Whole = record { deck = c.args.run.deck; history = c.end-vault.result.history; marks = c.end-vault.result.marks; state = c.end-vault.result.state } in
    let new = g.D.Disk.view c.of_stopped.result.disk in
    let same : new ≡ c.end-vault-2.result.disk = c.of_stopped.ensures.disk in
    let here = ap (λ (d : DiskView). moment_of d.past) same in
    let given = given_back x c.end-vault.result.vault c.end-vault-2.result c.end-vault.ensures.vault c.end-vault-2.ensures.vault c.end-vault-2.ensures.watched c.most-most.ensures.limits in
    came_stopped c.args.turns c.args.run.deck x c.args.run.end c.requires c.end-vault-2.result given new c.of_stopped.ensures.placed left refl c.end-vault.ensures.history c.end-vault.ensures.marks c.of_stopped.result.outcome
    c.of_stopped.ensures.outcome (omega (arith, here))
    (c.of_stopped.ensures.cause (stopped_rose c.args.turns c.args.run.deck x c.args.run.end c.requires c.end-vault-2.result given (c.requires.stopped c.in-Stopped.is)))

pub returns-in-Stopped-clause-left : goal.returns-in-Stopped-clause-left
returns-in-Stopped-clause-left g c =
    let x = c.args.run.machine in
    let left : Whole = record { deck = c.args.run.deck; history = c.end-vault.result.history; marks = c.end-vault.result.marks; state = c.end-vault.result.state } in
    let new = g.D.Disk.view c.of_stopped.result.disk in
    let given = given_back x c.end-vault.result.vault c.end-vault-2.result c.end-vault.ensures.vault c.end-vault-2.ensures.vault c.end-vault-2.ensures.watched c.most-most.ensures.limits in
    left_off c.args.turns c.args.run.deck x c.args.run.end c.requires c.end-vault-2.result given new c.of_stopped.ensures.placed c.restart_laws.ensures c.of_stopped.result.outcome
    (λ not. reported_stopped c.args.turns c.args.run.deck x c.args.run.end c.requires c.end-vault-2.result given new c.of_stopped.ensures.placed left refl c.end-vault.ensures.history c.end-vault.ensures.marks
    c.of_stopped.result.outcome c.of_stopped.ensures.outcome)
    (λ not. run_on c.args.turns c.args.run.deck x c.args.run.end c.requires c.end-vault-2.result given c.in-Stopped.is)
    c.of_stopped.ensures.disk

pub returns-in-NoMemory-clause-left : goal.returns-in-NoMemory-clause-left
returns-in-NoMemory-clause-left g c =
    let x = c.args.run.machine in
    let given = given_back x c.end-vault.result.vault c.end-vault-2.result c.end-vault.ensures.vault c.end-vault-2.ensures.vault c.end-vault-2.ensures.watched c.most-most.ensures.limits in
    left_off c.args.turns c.args.run.deck x c.args.run.end c.requires c.end-vault-2.result given (g.D.Disk.view c.release.result) c.release.ensures.layout c.restart_laws.ensures NoMemory (λ not. absurd (not refl)) (λ not. absurd (not refl)) c.release.ensures.disk
