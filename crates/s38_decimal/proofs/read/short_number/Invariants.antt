use Rattle.std.proofs.Common.{◌≡◌, ◌^◌, ◌<◌, true}
use Rattle.s38_base.specs.Scalar.{are_decimal, digit_in, number_from}
use Rattle.s38_decimal.proofs.read.short_number.Given as goal

abbrev pub invariant-loop-k : goal.invariant-loop-k
invariant-loop-k l = record {
  decimal : are_decimal (digit_in l.attr l.bytes) l.k ≡ true;
  spelled : l.number ≡ number_from 10 (digit_in l.attr l.bytes) l.k;
  short : l.number < 10 ^ l.k;
}
