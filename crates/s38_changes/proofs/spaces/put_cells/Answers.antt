use Rattle.std.proofs.Common.{subst, sym}
use Rattle.s38_rules.specs.state.Cells.{with_cells}
use Rattle.s38_rules.specs.state.Held.{Held}
use Rattle.s38_rules.specs.state.Kept.{Mirrors}
use Rattle.s38_rules.specs.state.PartsAt.{cells_at}
use Rattle.s38_changes.proofs.CellLaws.{cells_length}
use Rattle.s38_changes.proofs.KeptLaws.{cells_kept}
use Rattle.s38_changes.proofs.spaces.put_cells.Goals as goal

pub invariant_of-world : goal.invariant_of-world
invariant_of-world c = (
  c.world.invariant.0,
  subst (λ (h : Held). Mirrors c.world.inside.profiles h) (sym c.copy_in.ensures)
      (cells_kept c.world.inside.profiles c.world.inside.objects c.target.result.0 (with_cells c.start-at.result c.args.cells.now)
      (cells_length c.start-at.result c.args.cells.now (cells_at c.world.inside.objects c.target.result.0)) c.world.invariant.1),
)
