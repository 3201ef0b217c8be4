use Rattle.std.proofs.Common.{ℕ, subst}
use Rattle.std.specs.List.{list_all}
use Rattle.std.specs.Prelude.{IsTrue}
use Rattle.s38_dataspaces.specs.Entries.{has_width}
use Rattle.s38_dataspaces.specs.Table.{DataTable, is_entry_of}
use Rattle.s38_dataspaces.proofs.SpaceLaws.{are_entries}
use Rattle.s38_dataspaces.proofs.space.DataSpace.ordinals.Goals as goal

pub returns-clause-entries : goal.returns-clause-entries
returns-clause-entries c =
    let entries = c.self.inside.records.entries in
    subst (λ (t : DataTable). IsTrue (list_all (is_entry_of t.fields) t.entries)) c.self.view_is
    (are_entries c.self.inside.fields entries
    (subst (λ (w : ℕ). IsTrue (list_all (has_width w) entries)) c.self.invariant.width_is c.count.ensures.widths)
    c.self.invariant.proper)
