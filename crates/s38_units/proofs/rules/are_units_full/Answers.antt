use Rattle.std.proofs.Common.{arith, sym}
use Rattle.s38_units.proofs.OpenLaws.{few_for_all}
use Rattle.s38_units.proofs.rules.are_units_full.Goals as goal

pub returns-then-all_units-lt-MOST_UNITS : goal.returns-then-all_units-lt-MOST_UNITS
returns-then-all_units-lt-MOST_UNITS c =
    sym (few_for_all c.args.objects.now c.args.units.now c.args.journal.0 c.args.block.0
    (omega (arith, c.all_units.ensures.count, c.if-all_units-lt-MOST_UNITS.true)))
