use Rattle.std.proofs.Common.{◌≡◌, ℕ, ◌+◌, ◌*◌, ◌/◌, ◌^◌, ◌≤◌, get_or}
use Rattle.s38_decimal.specs.Images.{packed_with}
use Rattle.s38_decimal.proofs.write.write_pairs.Given as goal

abbrev pub invariant-loop-k : goal.invariant-loop-k
invariant-loop-k l = record {
  rest : l.rest ≡ l.number / 10 ^ (2 * l.k + 1);
  written : (j : ℕ) → l.last ≤ j + l.k → j ≤ l.last → get_or l.into j 0 ≡ packed_with l.last l.number l.sign j;
}
