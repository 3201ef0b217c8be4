use Rattle.std.proofs.Common.{subst, sym}
use Rattle.std.specs.Option.{option_map}
use Rattle.s38_base.specs.declared.id.ObjNum.{ObjNum}
use Rattle.s38_journals.specs.declared.entry.EntryKind.TheVariants.{Decommit}
use Rattle.s38_rules.specs.state.Held.{Held}
use Rattle.s38_rules.specs.state.Kept.{Mirrors}
use Rattle.s38_rules.specs.families.Units.{all_undone, end_entry}
use Rattle.s38_units.proofs.KeptLaws.{end_kept, undone_kept}
use Rattle.s38_units.proofs.units.decommit.Goals as goal

pub invariant_of-world : goal.invariant_of-world
invariant_of-world c = (
  c.world.invariant.0,
  subst (λ (h : Held). Mirrors c.world.inside.profiles h) (sym c.undo_unit.ensures)
      (end_kept c.world.inside.profiles (all_undone c.world.inside.objects c.in-Some.unit.changes)
      (option_map (λ (n : ObjNum). n.0) c.journal_for_block-journal.result) (end_entry Decommit c.args.process c.in-Some.unit)
      (undone_kept c.world.inside.profiles c.world.inside.objects c.in-Some.unit.changes c.world.invariant.1)),
)
