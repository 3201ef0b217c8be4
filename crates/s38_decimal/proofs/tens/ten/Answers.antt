use Rattle.std.proofs.Common.{◌≡◌, ℕ, ◌^◌, ◌<◌, map, refl, ◌∙◌, ap, get_or, arith}
use Rattle.std.specs.List.{range_with_len}
use Rattle.std.proofs.lemmas.List.FromFn.{get_or-map-range_with_len}
use Rattle.s38_decimal.specs.declared.tens.TheConstants.{TENS}
use Rattle.s38_decimal.proofs.Powers.{tens_le}
use Rattle.s38_decimal.proofs.tens.ten.Goals as goal

powers : TENS ≡ map (λ k. 10 ^ k) (range_with_len 0 39)
powers = refl

at : (k : ℕ) → k < 39 → get_or TENS k 0 ≡ 10 ^ k
at k h = ap (λ xs. get_or xs k 0) powers ∙ get_or-map-range_with_len (λ k. 10 ^ k) 0 39 k k 0 h (omega arith)

pub returns : goal.returns
returns c = record {
  value = at c.args.k c.requires;
  bound = omega (arith, at c.args.k c.requires, tens_le c.args.k 38 (omega arith));
}
