use Rattle.std.proofs.Common.{ap, ◌∙◌}
use Rattle.s38_rules.specs.families.EntryChanges.{next_ordinal}
use Rattle.s38_cursors.proofs.reads.next_ordinal_at.Goals as goal

pub returns : goal.returns
returns c = rw (← c.world.view_is) (c.next_ordinal_in.ensures ∙ ap next_ordinal c.table_of.ensures)
