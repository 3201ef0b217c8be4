use Rattle.std.proofs.Common.{◌∙◌, ◌-◌, ap, arith, length, sym}
use Rattle.s38_dataspaces.specs.Table.{DataTable}
use Rattle.s38_restart.specs.Redo.{with_deleted}
use Rattle.s38_restart.proofs.RedoLaws.{deleted_all, deleted_next}
use Rattle.s38_restart.proofs.changes.add_deleted.Goals as goal

pub loop-space-preserved : goal.loop-space-preserved
loop-space-preserved c =
    ap (λ (t : DataTable). with_deleted t (c.args.at - length t.entries)) c.in-Ok.ensures.ok
    ∙ deleted_next c.loop-space.space c.args.at (omega (arith, c.ordinals.ensures.count, c.loop-space-test.true))
    ∙ c.loop-space.invariant

pub returns : goal.returns
returns c =
    sym (deleted_all c.loop-space.space c.args.at (omega (arith, c.ordinals.ensures.count, c.loop-space-test.false))) ∙ c.loop-space.invariant
