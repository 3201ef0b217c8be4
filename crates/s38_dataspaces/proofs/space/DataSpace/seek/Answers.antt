use Rattle.std.proofs.Common.{◌∙◌, Bool, List, ap, map, sym}
use Rattle.std.specs.Prelude.{is_some}
use Rattle.s38_dataspaces.specs.Entries.{DataEntry}
use Rattle.s38_dataspaces.specs.Seeks.{sought}
use Rattle.s38_dataspaces.specs.Table.{DataTable}
use Rattle.s38_dataspaces.proofs.SeekLaws.{is_nowhere, is_sought}
use Rattle.s38_dataspaces.proofs.space.DataSpace.seek.Goals as goal

pub returns-in-Some-clause-found : goal.returns-in-Some-clause-found
returns-in-Some-clause-found c =
    let how = c.args.how in
    let from = c.args.from in
    let flags = ap (λ (t : DataTable). map (λ (e : DataEntry). is_some e) t.entries) (sym c.self.view_is) ∙ sym c.presence.ensures in
    is_sought c.args.self.now.entries how from c.in-Some.at
    (ap (λ (fs : List Bool). sought fs how from) flags ∙ sym c.sought.ensures.ordinal ∙ c.in-Some.is)

pub returns-in-None-clause-none : goal.returns-in-None-clause-none
returns-in-None-clause-none c =
    let how = c.args.how in
    let from = c.args.from in
    let flags = ap (λ (t : DataTable). map (λ (e : DataEntry). is_some e) t.entries) (sym c.self.view_is) ∙ sym c.presence.ensures in
    is_nowhere c.args.self.now.entries how from
    (ap (λ (fs : List Bool). sought fs how from) flags ∙ sym c.sought.ensures.ordinal ∙ c.in-None.is)
