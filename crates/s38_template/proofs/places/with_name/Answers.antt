use Rattle.std.proofs.Common.{sym}
use Rattle.s38_template.proofs.TemplatePlaces.{new_place}
use Rattle.s38_template.proofs.places.with_name.Goals as goal

pub returns-in-Ok : goal.returns-in-Ok
returns-in-Ok c = λ q.
    new_place c.args.places c.insert.new.self c.args.at c.args.name (sym c.if-contains_key.ensures) c.in-Ok.ensures.updates q
