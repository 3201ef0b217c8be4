use Rattle.std.proofs.Common.{None, Some, refl, subst, sym}
use Rattle.std.specs.Prelude.{IsTrue}
use Rattle.s38_dataspaces.specs.Table.{DataTable}
use Rattle.s38_dataspaces.specs.Values.{have_values}
use Rattle.s38_dataspaces.proofs.SpaceLaws.{still_kept}
use Rattle.s38_dataspaces.proofs.space.DataSpace.restore.Goals as goal

pub invariant_of-self : goal.invariant_of-self
invariant_of-self c =
    let entry = c.in-Some.bytes.now in
    let values = c.if-not-may_restore.ensures.values c.in-Some.bytes c.in-Some.is in
    still_kept c.self.inside.fields c.self.inside.size c.self.inside.records c.put.new.self c.args.at (Some entry) c.put.ensures
    (subst (λ (t : DataTable). IsTrue (have_values t.fields entry)) (sym c.self.view_is) values) c.self.invariant

pub invariant_of-self-in-None : goal.invariant_of-self-in-None
invariant_of-self-in-None c =
    still_kept c.self.inside.fields c.self.inside.size c.self.inside.records c.clear.new.self c.args.at None c.clear.ensures refl c.self.invariant
