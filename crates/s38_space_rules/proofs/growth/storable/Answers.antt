use Rattle.std.proofs.Common.{sym}
use Rattle.s38_rules.specs.store.Storable.{IsStorable}
use Rattle.s38_space_rules.proofs.FollowLaws.{found_all}
use Rattle.s38_space_rules.proofs.growth.storable.Goals as goal

pub returns-in-Some-clause-storable : goal.returns-in-Some-clause-storable
returns-in-Some-clause-storable c = found_all IsStorable c.args.world.now.held.objects c.args.number.0 c.in-Some.object.now c.requires (sym c.in-Some.ensures)
