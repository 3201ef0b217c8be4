use Rattle.std.proofs.Common.{refl, subst, sym}
use Rattle.s38_rules.specs.state.Cells.{with_bytes, with_pointer}
use Rattle.s38_rules.specs.state.Held.{Held}
use Rattle.s38_rules.specs.state.Kept.{Mirrors}
use Rattle.s38_rules.specs.state.PartsAt.{cells_at}
use Rattle.s38_changes.proofs.CellLaws.{bytes_length, pointer_length}
use Rattle.s38_changes.proofs.KeptLaws.{cells_kept}
use Rattle.s38_changes.proofs.spaces.put_value.Goals as goal

pub invariant_of-world : goal.invariant_of-world
invariant_of-world c = (
  c.world.invariant.0,
  subst (λ (h : Held). Mirrors c.world.inside.profiles h) (sym c.write.ensures)
      (cells_kept c.world.inside.profiles c.world.inside.objects c.args.number.0 (with_bytes c.args.at c.as_slice.result.now)
      (bytes_length c.args.at c.as_slice.result.now (cells_at c.world.inside.objects c.args.number.0)) c.world.invariant.1),
)

pub invariant_of-world-in-Ptr : goal.invariant_of-world-in-Ptr
invariant_of-world-in-Ptr c = (
  c.world.invariant.0,
  subst (λ (h : Held). Mirrors c.world.inside.profiles h) (sym c.set_pointer.ensures)
      (cells_kept c.world.inside.profiles c.world.inside.objects c.args.number.0 (with_pointer c.args.at c.get.result)
      (pointer_length c.args.at c.get.result (cells_at c.world.inside.objects c.args.number.0)) c.world.invariant.1),
)

pub returns-in-Ptr : goal.returns-in-Ptr
returns-in-Ptr c = rw (c.set_pointer.ensures, c.get.ensures, c.in-Ptr.is, ← c.world.view_is) refl
