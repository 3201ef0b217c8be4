use Rattle.std.proofs.Common.{◌≡◌, ℕ, ◌<◌, ◌^◌, ◌/◌, get_or}
use Rattle.s38_base.specs.Scalar.{digit_at}
use Rattle.s38_decimal.proofs.write.spread.Given as goal

abbrev pub invariant-loop-k : goal.invariant-loop-k
invariant-loop-k l = record {
  rest : l.rest ≡ l.number / 10 ^ l.k;
  written : (k : ℕ) → k < l.k → get_or l.into k 0 ≡ digit_at 10 l.number k;
}
