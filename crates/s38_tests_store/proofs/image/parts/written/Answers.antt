use Rattle.s38_image_writer.proofs.PartLaws.{nothing_to_settle}
use Rattle.s38_tests_store.proofs.image.parts.written.Goals as goal

pub to_parts-requires-clause-units : goal.to_parts-requires-clause-units
to_parts-requires-clause-units c = nothing_to_settle c.new-units.result c.args.stored.now.object.number.0 c.args.stored.now.object.body c.new-units.ensures
