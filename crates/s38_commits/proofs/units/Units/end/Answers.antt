use Rattle.std.proofs.Common.{sym}
use Rattle.s38_commits.proofs.PlaceLaws.{entered_less, gone_too}
use Rattle.s38_commits.proofs.units.Units.end.Goals as goal

pub invariant_of-self-2 : goal.invariant_of-self-2
invariant_of-self-2 c =
    let m = c.self.inside in
    entered_less m.units.entries c.remove.new.self.entries m.places c.leave.new.places c.args.block.0 c.in_ok-unit.unit c.self.invariant (sym c.in_ok-unit.ensures.value) c.remove.ensures.ordered c.remove.ensures.updates.0
    (gone_too m.places c.leave.new.places c.changes.result.now c.in_ok-unit.unit.changes c.changes.ensures.changes c.leave.ensures)
