use Rattle.std.specs.Prelude.{Some}
use Rattle.s38_objects.proofs.NameLaws.{names_updated}
use Rattle.s38_objects.proofs.names.enter.Goals as goal

pub returns-in-Ok-clause-ok : goal.returns-in-Ok-clause-ok
returns-in-Ok-clause-ok c =
    names_updated c.args.context.0 c.args.id.now c.key.result (Some c.args.number.0) c.args.names.now c.insert.new.self c.key.ensures c.if-context-eq0.false c.in-Ok.ensures.updates.0
