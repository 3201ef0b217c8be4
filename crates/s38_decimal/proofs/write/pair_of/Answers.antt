use Rattle.std.proofs.Common.{◌≡◌, ◌+◌, ◌*◌, ◌/◌, ◌%◌, map, refl, ◌∙◌, ap, get_or, arith}
use Rattle.std.specs.List.{range_with_len}
use Rattle.std.proofs.lemmas.List.FromFn.{get_or-map-range_with_len}
use Rattle.s38_decimal.specs.declared.write.TheConstants.{PAIRS}
use Rattle.s38_decimal.proofs.write.pair_of.Goals as goal

pairs : PAIRS ≡ map (λ k. k / 10 * 16 + k % 10) (range_with_len 0 100)
pairs = refl

pub returns : goal.returns
returns c = ap (λ xs. get_or xs c.args.number 0) pairs ∙ get_or-map-range_with_len (λ k. k / 10 * 16 + k % 10) 0 100 c.args.number c.args.number 0 c.requires (omega arith)
