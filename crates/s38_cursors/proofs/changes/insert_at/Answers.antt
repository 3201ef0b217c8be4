use Rattle.s38_rules.specs.families.EntryChanges.{with_inserted}
use Rattle.s38_cursors.proofs.CursorLaws.{table_left}
use Rattle.s38_cursors.proofs.changes.insert_at.Goals as goal

pub invariant_of-world : goal.invariant_of-world
invariant_of-world c = (
  c.world.invariant.0,
  table_left c.world.inside.profiles c.world.inside.objects c.insert_in.new.objects c.args.number.0 (with_inserted c.args.entry.now)
      c.insert_in.result c.insert_in.ensures.ok c.insert_in.ensures.err c.world.invariant.1,
)
