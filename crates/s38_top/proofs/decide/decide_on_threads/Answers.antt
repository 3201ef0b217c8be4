use Rattle.std.proofs.Common.{Bor, List, ℕ, true, map}
use Rattle.s38_command.specs.Commands.{command_on}
use Rattle.s38_top.proofs.SafeLaws.{run_safe}
use Rattle.s38_top.proofs.StoreLaws.{ready_decided}
use Rattle.s38_top.proofs.decide.decide_on_threads.Goals as goal

pub run_on_threads-requires-clause-begun : goal.run_on_threads-requires-clause-begun
run_on_threads-requires-clause-begun g c κs lives = c.in-Ok.ensures.ready.begun

pub returns-in-Ok-clause-decided : goal.returns-in-Ok-clause-decided
returns-in-Ok-clause-decided g c =
    let ready = c.in-Ok.ready in
    ready_decided ready.turns (g.D.Disk.view c.args.disk) (g.D.Disk.view c.run_on_threads.result.disk) ready.started.deck ready.started.made.items ready.started.machine c.in-Ok.ensures.ready
    (command_on true (map {A = Bor (List ℕ)} {B = List ℕ} (λ w. w.now) c.args.words.now)) (g.S.Source.left c.args.source.now) (g.S.Source.left c.prepare.new.source)
    (g.S.Source.faults c.args.source.now) (g.S.Source.faults c.prepare.new.source) c.run_on_threads.result.outcome c.in-Ok.ensures.asked c.in-Ok.ensures.read c.run_on_threads.ensures.came

pub returns-in-Ok-clause-safe : goal.returns-in-Ok-clause-safe
returns-in-Ok-clause-safe g c =
    let ready = c.in-Ok.ready in
    run_safe ready.turns (g.D.Disk.view c.args.disk) (g.D.Disk.view c.run_on_threads.result.disk) ready.started.deck ready.started.made.items ready.started.machine c.run_on_threads.result.outcome c.in-Ok.ensures.ready
    c.run_on_threads.ensures.left (command_on true (map {A = Bor (List ℕ)} {B = List ℕ} (λ w. w.now) c.args.words.now)) c.in-Ok.ensures.asked
