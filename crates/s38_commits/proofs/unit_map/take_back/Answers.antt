use Rattle.std.proofs.Common.{ap}
use Rattle.s38_commits.specs.Unit.{without_newest}
use Rattle.s38_commits.proofs.MapLaws.{unit_missing, unit_written}
use Rattle.s38_commits.proofs.unit_map.take_back.Goals as goal

pub returns-in-Some : goal.returns-in-Some
returns-in-Some c =
    let u = c.in-Some.unit.now in
    let x = c.take_back.new.self in
    unit_written c.args.block without_newest u x c.args.units.now.entries _ c.in-Some.ensures.value (c.get_mut.follows.holds x).0 c.take_back.ensures

pub returns-in_default : goal.returns-in_default
returns-in_default c =
    unit_missing c.args.block without_newest c.args.units.now.entries _ c.in_default.ensures.value (ap (λ m. m.entries) c.get_mut.follows.holds-at-none)
