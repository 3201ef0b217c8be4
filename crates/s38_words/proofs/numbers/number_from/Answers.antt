use mir.Syntax.{w128}
use mir.Val.{SFits}
use Rattle.std.proofs.Common.{ap, ◌∙◌, ◌+◌, length, ℤ, rules}
use Rattle.std.proofs.lemmas.Int.{to_z-of_z}
use Rattle.s38_base.specs.Scalar.{with_minus}
use Rattle.s38_words.proofs.DigitLaws.{number-lt}
use Rattle.s38_words.specs.declared.numbers.Numeral.{Numeral}
use Rattle.s38_words.proofs.numbers.number_from.Goals as goal

pub signed-requires : goal.signed-requires
signed-requires c =
    (number-lt c.args.front.now c.args.back.now c.value_after.result c.value_after-units.result c.value_after.ensures c.value_after-units.ensures
    c.requires.front c.requires.back c.requires.few).1

pub returns : goal.returns
returns c =
    let same = (number-lt c.args.front.now c.args.back.now c.value_after.result c.value_after-units.result c.value_after.ensures c.value_after-units.ensures
    c.requires.front c.requires.back c.requires.few).0 in
    let numeral : ℤ → Numeral = λ units. record { units = units; digits = length c.args.front.now + length c.args.back.now; fraction = length c.args.back.now } in
    let held : SFits w128 c.signed.result = search rules in
    ap numeral (to_z-of_z w128 c.signed.result held ∙ (c.signed.ensures ∙ ap (λ n. with_minus c.args.minus n) same))
