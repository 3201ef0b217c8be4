use Rattle.std.proofs.Common.{subst, sym}
use Rattle.std.specs.Option.{option_map}
use Rattle.s38_base.specs.declared.id.ObjNum.{ObjNum}
use Rattle.s38_journals.specs.Entries.{logged_entry}
use Rattle.s38_rules.specs.state.Held.{Held}
use Rattle.s38_rules.specs.state.Kept.{Mirrors}
use Rattle.s38_units.proofs.KeptLaws.{end_kept}
use Rattle.s38_units.proofs.units.commit.Goals as goal

pub invariant_of-world : goal.invariant_of-world
invariant_of-world c = (
  c.world.invariant.0,
  subst (λ (h : Held). Mirrors c.world.inside.profiles h) (sym c.write_end.ensures)
      (end_kept c.world.inside.profiles c.world.inside.objects (option_map (λ (n : ObjNum). n.0) c.journal_for_block-journal.result)
      (logged_entry c.end_entry-entry.result) c.world.invariant.1),
)
