use Rattle.std.proofs.Common.{◌∙◌}
use Rattle.s38_decimal.proofs.PackedLaws.{packed_bound, packed_value, spells}
use Rattle.s38_decimal.proofs.packed.short_packed.Goals as goal

pub returns-clause-value : goal.returns-clause-value
returns-clause-value c =
    c.before_sign.ensures ∙ packed_value c.args.digits c.args.fraction c.args.bytes.now (spells c.args.digits c.args.fraction c.args.bytes.now c.requires.long c.requires.begins)

pub returns-clause-bound : goal.returns-clause-bound
returns-clause-bound c =
    packed_bound c.args.digits c.args.fraction c.args.bytes.now c.before_sign.result
    (c.before_sign.ensures ∙ packed_value c.args.digits c.args.fraction c.args.bytes.now (spells c.args.digits c.args.fraction c.args.bytes.now c.requires.long c.requires.begins))
