use Rattle.std.proofs.Common.{None, refl}
use Rattle.s38_dataspaces.proofs.SpaceLaws.{still_kept}
use Rattle.s38_dataspaces.proofs.space.DataSpace.delete.Goals as goal

pub invariant_of-self : goal.invariant_of-self
invariant_of-self c =
    still_kept c.self.inside.fields c.self.inside.size c.self.inside.records c.clear.new.self c.args.at None c.clear.ensures refl c.self.invariant
