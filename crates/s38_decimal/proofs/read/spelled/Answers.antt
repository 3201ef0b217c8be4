use Rattle.std.proofs.Common.{arith}
use Rattle.s38_base.specs.Attributes.{digits_of}
use Rattle.s38_decimal.proofs.Powers.{below_half}
use Rattle.s38_decimal.proofs.Attributes.{digits_few}
use Rattle.s38_decimal.proofs.read.spelled.Goals as goal

pub signed-requires : goal.signed-requires
signed-requires c = below_half _ (digits_of c.args.attr) c.in_ok-number.ensures.bound (omega (arith, digits_few c.args.attr c.requires.numeric))
