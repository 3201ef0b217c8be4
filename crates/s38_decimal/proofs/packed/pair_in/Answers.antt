use Rattle.std.proofs.Common.{◌≡◌, ℕ, ◌+◌, ◌*◌, ◌/◌, ◌%◌, ◌&&◌, map, refl, ◌∙◌, ap, get_or, nat_lt, arith}
use Rattle.std.specs.Prelude.{if◌then◌else◌}
use Rattle.std.specs.List.{range_with_len}
use Rattle.std.proofs.lemmas.List.FromFn.{get_or-map-range_with_len}
use Rattle.s38_decimal.specs.declared.packed.TheConstants.{PAIRS}
use Rattle.s38_decimal.proofs.packed.pair_in.Goals as goal

abbrev pair : ℕ → ℕ
pair byte = if nat_lt (byte / 16) 10 && nat_lt (byte % 16) 10 then byte / 16 * 10 + byte % 16 else 255

pairs : PAIRS ≡ map pair (range_with_len 0 256)
pairs = refl

pub returns : goal.returns
returns c = ap (λ xs. get_or xs c.args.byte 0) pairs ∙ get_or-map-range_with_len pair 0 256 c.args.byte c.args.byte 0 (omega arith) (omega arith)
