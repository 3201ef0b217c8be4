use Rattle.std.proofs.Common.{◌≡◌, false, sym, ◌∙◌}
use Rattle.s38_base.specs.Attributes.{is_numeric}
use Rattle.s38_odt.proofs.HeldLaws.{number_held-large, number_held-other}
use Rattle.s38_odt.proofs.image.number_held.Goals as goal

pub returns-then-not-is_numeric : goal.returns-then-not-is_numeric
returns-then-not-is_numeric c =
    let other : is_numeric c.args.attr ≡ false = sym c.is_numeric.ensures ∙ c.if-not-is_numeric.true in
    sym (number_held-other c.args.attr c.args.literal other)

pub returns-then-magnitude : goal.returns-then-magnitude
returns-then-magnitude c = sym (number_held-large c.args.attr c.args.literal c.magnitude_in-magnitude.result c.magnitude_in-magnitude.ensures c.if-magnitude.true)
