use Rattle.std.proofs.Common.{◌≡◌, ap, sym, ◌∙◌, arith}
use Rattle.s38_dataspaces.specs.Table.{DataTable, entry_len}
use Rattle.s38_dataspaces.proofs.SpaceLaws.{deleted_kept}
use Rattle.s38_dataspaces.proofs.space.DataSpace.insert_deleted.Goals as goal

pub invariant_of-self-2 : goal.invariant_of-self-2
invariant_of-self-2 c = deleted_kept c.self.inside.fields c.self.inside.size c.entry_len-width.result c.self.inside.records _ c.in-Ok.ensures.ok c.self.invariant (c.entry_len-width.ensures.len ∙ ap (λ (t : DataTable). entry_len t.fields) (sym c.self.view_is) ∙ sym c.self.invariant.width_is) (omega (arith, c.if-self-width-gt-LARGEST.false))
