use Rattle.s38_restart.proofs.catalog.LookupLaws.{place_found, place_missing}
use Rattle.s38_restart.proofs.catalog.numbers.place_of.Goals as goal

pub returns-in-Ok : goal.returns-in-Ok
returns-in-Ok c = place_found c.args.numbers.now c.args.number c.in-Ok.at c.requires c.in-Ok.ensures.position

pub returns-in-Err : goal.returns-in-Err
returns-in-Err c = place_missing c.args.numbers.now c.args.number c.in-Err.field-0 c.requires c.in-Err.ensures.position
