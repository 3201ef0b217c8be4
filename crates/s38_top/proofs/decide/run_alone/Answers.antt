use Rattle.std.proofs.Common.{subst, sym}
use Rattle.s38_code.specs.declared.deck.Deck.{Deck}
use Rattle.s38_command.specs.declared.turns.Turns.{Turns}
use Rattle.s38_command.specs.declared.turns.Turns.TheVariants.{Serial}
use Rattle.s38_pages.specs.Watched.{WatchedStore}
use Rattle.s38_durable_machine.specs.Seen.{StoredBeginning}
use Rattle.s38_top.specs.Ends.{CameFrom, LeftOver}
use Rattle.s38_top.specs.Stored.{WentOver}
use Rattle.s38_top.proofs.decide.run_alone.Goals as goal

pub finish-requires : goal.finish-requires
finish-requires g c = subst (λ (d : Deck). WentOver (Serial c.in-Serial.pick) d c.run_over-run.result.machine c.run_over-run.result.end) (sym c.run_over-run.ensures.deck) c.run_over-run.ensures.went

pub returns-clause-came : goal.returns-clause-came
returns-clause-came g c =
    subst (λ (t : Turns). CameFrom t c.args.ready.started.deck c.args.ready.started.machine.first.now c.args.ready.started.machine.machine.origin (g.D.Disk.view c.finish.result.disk) c.finish.result.outcome) (sym c.in-Serial.is)
    (subst (λ (b : StoredBeginning WatchedStore). CameFrom (Serial c.in-Serial.pick) c.args.ready.started.deck b.vault.now b.state (g.D.Disk.view c.finish.result.disk) c.finish.result.outcome) c.run_over-run.ensures.beginning
    (subst (λ (d : Deck). CameFrom (Serial c.in-Serial.pick) d c.run_over-run.result.machine.first.now c.run_over-run.result.machine.machine.origin (g.D.Disk.view c.finish.result.disk) c.finish.result.outcome) c.run_over-run.ensures.deck c.finish.ensures.came))

pub returns-clause-left : goal.returns-clause-left
returns-clause-left g c =
    subst (λ (t : Turns). LeftOver t c.args.ready.started.deck c.args.ready.started.machine.first.now c.args.ready.started.machine.machine.origin (g.D.Disk.view c.finish.result.disk) c.finish.result.outcome) (sym c.in-Serial.is)
    (subst (λ (b : StoredBeginning WatchedStore). LeftOver (Serial c.in-Serial.pick) c.args.ready.started.deck b.vault.now b.state (g.D.Disk.view c.finish.result.disk) c.finish.result.outcome) c.run_over-run.ensures.beginning
    (subst (λ (d : Deck). LeftOver (Serial c.in-Serial.pick) d c.run_over-run.result.machine.first.now c.run_over-run.result.machine.machine.origin (g.D.Disk.view c.finish.result.disk) c.finish.result.outcome) c.run_over-run.ensures.deck c.finish.ensures.left))
