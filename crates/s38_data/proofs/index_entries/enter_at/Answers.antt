use Rattle.s38_data.proofs.IndexLaws.{index_left}
use Rattle.s38_rules.specs.families.Indexes.{entered}
use Rattle.s38_data.proofs.index_entries.enter_at.Goals as goal

pub invariant_of-world : goal.invariant_of-world
invariant_of-world c = (
  c.world.invariant.0,
  index_left c.world.inside.profiles c.world.inside.objects c.enter_in.new.objects c.args.number.0 (entered c.args.entry.now)
      c.enter_in.result c.enter_in.ensures.ok c.enter_in.ensures.err c.world.invariant.1,
)
