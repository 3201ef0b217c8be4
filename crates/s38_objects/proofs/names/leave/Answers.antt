use Rattle.std.specs.Prelude.{None}
use Rattle.s38_objects.proofs.NameLaws.{names_updated}
use Rattle.s38_objects.proofs.names.leave.Goals as goal

pub returns-then-object-ne0 : goal.returns-then-object-ne0
returns-then-object-ne0 c =
    let o = c.args.object.now in
    names_updated o.context.0 o.id c.key.result None c.args.names.now c.remove.new.self c.key.ensures c.if-object-ne0.true c.remove.ensures.updates.0
