use Rattle.std.proofs.Common.{arith}
use Rattle.std.proofs.Math.Nat.{one-le-pow}
use Rattle.s38_odt.proofs.Powers.{tens_le}
use Rattle.s38_odt.proofs.image.ten.Goals as goal

pub pow-requires : goal.pow-requires
pow-requires c = omega (arith, tens_le c.from.result 31 (omega arith))

pub returns-clause-positive : goal.returns-clause-positive
returns-clause-positive c = omega (arith, one-le-pow c.from.result 10 (omega arith))
