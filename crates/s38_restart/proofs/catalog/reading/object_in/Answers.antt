use Rattle.std.proofs.Common.{rules}
use Rattle.std.proofs.lemmas.List.Sorted.{answers_always}
use Rattle.s38_restart.specs.catalog.Readings.{stored_number}
use Rattle.s38_restart.proofs.catalog.SearchLaws.{search_found, search_missed}
use Rattle.s38_restart.proofs.catalog.reading.object_in.Goals as goal

pub returns-in-Ok : goal.returns-in-Ok
returns-in-Ok c =
    search_found c.args.number c.args.stored.now c.in-Ok.at c.index-stored-at.result c.requires c.in-Ok.ensures.bound (c.in-Ok.ensures.position stored_number (answers_always _ _ _ (λ f a r g called. search rules))) c.index-stored-at.is

pub returns-in-Err : goal.returns-in-Err
returns-in-Err c =
    search_missed c.args.number c.args.stored.now c.in-Err.field-0 c.requires (c.in-Err.ensures.position stored_number (answers_always _ _ _ (λ f a r g called. search rules)))
