use Rattle.std.proofs.Common.{◌∙◌, ◌+◌, ap, arith, drop}
use Rattle.std.proofs.lemmas.Result.{on_ok_weaker}
use Rattle.s38_dataspaces.specs.Table.{DataTable}
use Rattle.s38_journals.specs.Entries.{logged_entry}
use Rattle.s38_restart.specs.Redo.{redone_from}
use Rattle.s38_restart.proofs.RedoLaws.{found_entry, no_entry, redone_next}
use Rattle.s38_restart.proofs.journaled.redo_at.Goals as goal

pub returns-in_default : goal.returns-in_default
returns-in_default c =
    let none = no_entry c.args.journal.now.entries c.args.at c.get.result c.get.ensures c.in_default.is in
    absurd (omega (arith, none, c.requires.there))

pub returns : goal.returns
returns c =
    let number = c.args.number.0 in
    let es = c.args.journal.now.entries in
    let at = c.args.at in
    let found = found_entry es at c.get.result c.in-Some.entry c.get.ensures c.in-Some.is in
    on_ok_weaker c.redo_counted.result
    (λ same. ap (λ (t : DataTable). redone_from number c.args.image es (at + 1 + 1) (drop (at + 1) es) t) same ∙ redone_next number c.args.image at es (logged_entry c.in-Some.entry) c.args.space.now found)
    c.redo_counted.ensures
