use Rattle.std.proofs.Common.{subst}
use Rattle.std.specs.Prelude.{IfSome, IsTrue}
use Rattle.s38_dataspaces.specs.Table.{DataTable}
use Rattle.s38_dataspaces.specs.Values.{have_values}
use Rattle.s38_dataspaces.proofs.SpaceLaws.{proper_read}
use Rattle.s38_dataspaces.proofs.space.DataSpace.get.Goals as goal

pub returns-clause-values : goal.returns-clause-values
returns-clause-values c =
    subst (λ (t : DataTable). IfSome c.get.result (λ entry. IsTrue (have_values t.fields entry.now))) c.self.view_is
    (proper_read c.self.inside.fields c.self.inside.records.entries c.args.at c.get.result c.self.invariant.proper c.get.ensures.entry)
