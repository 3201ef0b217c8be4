use Rattle.std.proofs.Common.{◌≡◌, ◌*◌, ◌/◌, ◌%◌, ◌-◌, ◌^◌, max, ap, sym, ◌∙◌, arith}
use Rattle.std.proofs.Math.Nat.{one-le-pow}
use Rattle.s38_decimal.proofs.OrderLaws.{rest_below, rest_decides, whole_decides}
use Rattle.s38_decimal.proofs.Powers.{tens_le}
use Rattle.s38_decimal.proofs.order.by_parts.Goals as goal

pub divided-whole-requires : goal.divided-whole-requires
divided-whole-requires c = omega (arith, c.ten.ensures.value, one-le-pow c.args.f 10 (omega arith))

pub divided-other_whole-requires : goal.divided-other_whole-requires
divided-other_whole-requires c = omega (arith, c.ten-2.ensures.value, one-le-pow c.args.g 10 (omega arith))

pub returns-then-whole-other_whole : goal.returns-then-whole-other_whole
returns-then-whole-other_whole c =
    let w = c.divided-whole.ensures.quotient ∙ ap (λ p. c.args.n / p) c.ten.ensures.value in
    let v = c.divided-other_whole.ensures.quotient ∙ ap (λ p. c.args.m / p) c.ten-2.ensures.value in
    let e = whole_decides c.args.n c.args.m c.args.f c.args.g (λ same. c.if-whole-other_whole.true (w ∙ same ∙ sym v)) in
    cc

pub overflow_mul-rest : goal.overflow_mul-rest
overflow_mul-rest c =
    let most = max c.args.f c.args.g in
    let r = c.divided-whole.ensures.rest ∙ ap (λ p. c.args.n % p) c.ten.ensures.value in
    let e : c.divided-whole.result.1 * c.ten-3.result ≡ c.args.n % 10 ^ c.args.f * 10 ^ (max c.args.f c.args.g - c.args.f) = cc in
    omega (arith, e, rest_below c.args.n c.args.f most (omega arith), tens_le most 31 (omega arith))

pub overflow_mul-other_rest : goal.overflow_mul-other_rest
overflow_mul-other_rest c =
    let most = max c.args.f c.args.g in
    let r = c.divided-other_whole.ensures.rest ∙ ap (λ p. c.args.m % p) c.ten-2.ensures.value in
    let e : c.divided-other_whole.result.1 * c.ten-4.result ≡ c.args.m % 10 ^ c.args.g * 10 ^ (max c.args.f c.args.g - c.args.g) = cc in
    omega (arith, e, rest_below c.args.m c.args.g most (omega arith), tens_le most 31 (omega arith))

pub returns : goal.returns
returns c =
    let w = c.divided-whole.ensures.quotient ∙ ap (λ p. c.args.n / p) c.ten.ensures.value in
    let v = c.divided-other_whole.ensures.quotient ∙ ap (λ p. c.args.m / p) c.ten-2.ensures.value in
    let r = c.divided-whole.ensures.rest ∙ ap (λ p. c.args.n % p) c.ten.ensures.value in
    let s = c.divided-other_whole.ensures.rest ∙ ap (λ p. c.args.m % p) c.ten-2.ensures.value in
    let e = rest_decides c.args.n c.args.m c.args.f c.args.g (sym w ∙ c.if-whole-other_whole.false ∙ v) in
    cc
