use Rattle.std.proofs.Common.{◌≡◌, ◌*◌, ◌^◌, ◌<◌, true}
use Rattle.s38_base.specs.Scalar.{are_decimal, half_byte, number_from}
use Rattle.s38_decimal.proofs.packed.pairs_number.Given as goal

abbrev pub invariant-loop-k : goal.invariant-loop-k
invariant-loop-k l = record {
  decimal : are_decimal (half_byte l.bytes) (2 * l.k) ≡ true;
  spelled : l.number ≡ number_from 10 (half_byte l.bytes) (2 * l.k);
  short : l.number < 10 ^ (2 * l.k);
}
