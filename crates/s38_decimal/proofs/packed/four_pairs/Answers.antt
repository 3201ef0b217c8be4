use Rattle.std.proofs.Common.{◌≡◌, ◌*◌, ap, refl, arith}
use Rattle.s38_decimal.proofs.PackedLaws.{bad_pair, four_decimal, four_number}
use Rattle.s38_decimal.proofs.packed.four_pairs.Goals as goal

pub returns-then-a-gt99-clause-value : goal.returns-then-a-gt99-clause-value
returns-then-a-gt99-clause-value c =
    let bad = bad_pair c.args.bytes.now 0 c.args.pairs c.pair_in-a.result (omega (arith, c.requires.four)) c.pair_in-a.ensures (omega arith) in
    rw bad refl

pub returns-then-b-gt99-clause-value : goal.returns-then-b-gt99-clause-value
returns-then-b-gt99-clause-value c =
    let bad = bad_pair c.args.bytes.now 1 c.args.pairs c.pair_in-b.result (omega (arith, c.requires.four)) c.pair_in-b.ensures (omega arith) in
    rw bad refl

pub returns-then-c-gt99-clause-value : goal.returns-then-c-gt99-clause-value
returns-then-c-gt99-clause-value c =
    let bad = bad_pair c.args.bytes.now 2 c.args.pairs c.pair_in-c.result (omega (arith, c.requires.four)) c.pair_in-c.ensures (omega arith) in
    rw bad refl

pub returns-then-d-gt99-clause-value : goal.returns-then-d-gt99-clause-value
returns-then-d-gt99-clause-value c =
    let bad = bad_pair c.args.bytes.now 3 c.args.pairs c.pair_in-d.result (omega (arith, c.requires.four)) c.pair_in-d.ensures (omega arith) in
    rw bad refl

pub returns-clause-value : goal.returns-clause-value
returns-clause-value c =
    let bytes = c.args.bytes.now in
    let decimal = four_decimal bytes c.pair_in-a.result c.pair_in-b.result c.pair_in-c.result c.pair_in-d.result
    c.pair_in-a.ensures c.pair_in-b.ensures c.pair_in-c.ensures c.pair_in-d.ensures (omega arith) (omega arith) (omega arith) (omega arith) in
    let number = four_number bytes c.pair_in-a.result c.pair_in-b.result c.pair_in-c.result c.pair_in-d.result
    c.pair_in-a.ensures c.pair_in-b.ensures c.pair_in-c.ensures c.pair_in-d.ensures (omega arith) (omega arith) (omega arith) (omega arith) in
    let eight : 2 * c.args.pairs ≡ 8 = ap (λ n. 2 * n) c.requires.four in
    rw eight (rw decimal cc)

pub returns-clause-bound : goal.returns-clause-bound
returns-clause-bound c = rw c.requires.four (omega arith)
