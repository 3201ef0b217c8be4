use Rattle.s38_command.specs.declared.command.Command.TheVariants.{Jobs}
use Rattle.s38_top.proofs.SafeLaws.{keeps_none}
use Rattle.s38_top.proofs.CauseLaws.{cause_of_deck, deck_read}
use Rattle.s38_top.proofs.prepare.ready_run.Goals as goal

pub returns-in-Ok-clause-read : goal.returns-in-Ok-clause-read
returns-in-Ok-clause-read g c =
    deck_read c.ready_on.result (λ r. r.started.deck) (g.S.Source.left c.args.source.now) (g.S.Source.left c.deck_of_source.new.source) c.in-Ok.checked.deck c.in-Ok.ensures.read c.ready_on.ensures.deck

pub returns-in-Ok-clause-cause : goal.returns-in-Ok-clause-cause
returns-in-Ok-clause-cause g c =
    cause_of_deck c.ready_on.result (λ d. g.D.Disk.view d.disk) (λ d. d.outcome) (Jobs c.args.turns) (g.S.Source.left c.args.source.now) (g.S.Source.left c.deck_of_source.new.source) (g.S.Source.faults c.args.source.now) (g.S.Source.faults c.deck_of_source.new.source)
    (g.D.Disk.view c.args.disk) c.in-Ok.checked.deck c.in-Ok.ensures.read c.ready_on.ensures.cause

pub returns-in-Err-clause-cause : goal.returns-in-Err-clause-cause
returns-in-Err-clause-cause g c = c.in-Err.ensures.cause (Jobs c.args.turns) (g.D.Disk.view c.args.disk)

pub returns-in-Err-clause-safe : goal.returns-in-Err-clause-safe
returns-in-Err-clause-safe g c = keeps_none (g.D.Disk.view c.args.disk)
