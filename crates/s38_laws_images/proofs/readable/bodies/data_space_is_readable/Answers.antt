use Rattle.std.proofs.Common.{◌<◌, ◌^◌, arith, rules}
use Rattle.s38_laws_images.proofs.readable.DataLaws.{data_fits}
use Rattle.s38_base.specs.Limits.{body_limit}
use Rattle.s38_laws_images.proofs.readable.bodies.data_space_is_readable.Goals as goal

pub returns : goal.returns
returns c = λ units number last early all.
    let port : c.args.held.now.port.0 < 2 ^ 64 = search rules in
    data_fits body_limit units number last c.args.held.now (omega arith) c.requires (record { port = port; fields = c.fields-fields.ensures.fit; entries = c.ordinals-ordinals.ensures.entries }) early all
