use Rattle.std.proofs.Common.{rules}
use Rattle.s38_base.specs.Scalar.{fits, scalar_image}
use Rattle.s38_base.specs.Attributes.{digits_of}
use Rattle.s38_decimal.proofs.Powers.{packed_room}
use Rattle.s38_decimal.proofs.write.write_image.Goals as goal

pub write_packed-requires-clause-all : goal.write_packed-requires-clause-all
unfolding fits scalar_image
write_packed-requires-clause-all c = packed_room _ (digits_of c.args.attr) _ (search rules) (search rules)
