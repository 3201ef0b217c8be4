use Rattle.std.proofs.Common.{◌∙◌, Some, sym, subst}
use Rattle.std.specs.Prelude.{IsTrue}
use Rattle.s38_dataspaces.specs.Table.{DataTable}
use Rattle.s38_dataspaces.specs.Values.{have_values}
use Rattle.s38_dataspaces.proofs.SpaceLaws.{right_length, still_kept}
use Rattle.s38_dataspaces.proofs.space.DataSpace.update.Goals as goal

pub invariant_of-self : goal.invariant_of-self
invariant_of-self c =
    let entry = c.args.entry.now in
    let values = c.requires.values (right_length c.args.self.now c.args.at entry (sym c.update_refusal.ensures ∙ c.in_default.is)) in
    still_kept c.self.inside.fields c.self.inside.size c.self.inside.records c.put.new.self c.args.at (Some entry) c.put.ensures
    (subst (λ (t : DataTable). IsTrue (have_values t.fields entry)) (sym c.self.view_is) values) c.self.invariant
