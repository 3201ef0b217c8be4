use Rattle.std.proofs.Common.{◌*◌, ◌/◌, ◌%◌, refl, arith}
use Rattle.std.specs.Prelude.{slice_index}
use Rattle.s38_decimal.proofs.PackedLaws.{bad_pair, next_bound, next_decimal, next_number, pair_high, pair_is, pair_low}
use Rattle.s38_decimal.proofs.Powers.{tens_le}
use Rattle.s38_decimal.proofs.packed.pairs_number.Goals as goal

pub returns-then-pair-gt99-clause-value : goal.returns-then-pair-gt99-clause-value
returns-then-pair-gt99-clause-value c =
    let bad = bad_pair c.args.bytes.now c.loop-k.k c.args.pairs c.pair_in-pair.result (omega arith) c.pair_in-pair.ensures (omega arith) in
    rw bad refl

pub overflow_mul-number : goal.overflow_mul-number
overflow_mul-number c = omega (arith, c.loop-k.invariant.short, tens_le (2 * c.loop-k.k) 16 (omega arith))

pub overflow_add-number : goal.overflow_add-number
overflow_add-number c = omega (arith, c.loop-k.invariant.short, tens_le (2 * c.loop-k.k) 16 (omega arith))

pub loop-k-preserved : goal.loop-k-preserved
loop-k-preserved c =
    let h = slice_index c.args.bytes.now c.loop-k.k / 16 in
    let l = slice_index c.args.bytes.now c.loop-k.k % 16 in
    let pair = c.pair_in-pair.result in
    let high = pair_high h l pair c.pair_in-pair.ensures (omega arith) in
    let low = pair_low h l pair c.pair_in-pair.ensures (omega arith) in
    let is = pair_is h l pair c.pair_in-pair.ensures (omega arith) in
    record {
      decimal = next_decimal c.args.bytes.now c.loop-k.k c.loop-k.invariant.decimal high low;
      spelled = omega (arith, is, next_number c.args.bytes.now c.loop-k.k c.loop-k.number c.loop-k.invariant.spelled);
      short = omega (arith, is, next_bound c.loop-k.k c.loop-k.number h l c.loop-k.invariant.short high low);
    }
