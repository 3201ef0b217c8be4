use Rattle.s38_laws_images.proofs.readable.SpaceLaws.{space_fits}
use Rattle.s38_laws_images.proofs.readable.bodies.space_is_readable.Goals as goal

pub returns : goal.returns
returns c = space_fits c.args.held.now c.cells-cells.ensures.storage
