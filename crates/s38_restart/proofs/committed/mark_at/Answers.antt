use Rattle.std.proofs.Common.{arith, get_or, false}
use Rattle.s38_journals.specs.Entries.{logged_entry}
use Rattle.s38_restart.proofs.RedoLaws.{found_entry, marked_next, unit_within}
use Rattle.s38_restart.proofs.committed.mark_at.Goals as goal

pub mark-requires : goal.mark-requires
mark-requires c =
    let es = c.args.journal.now.entries in
    let found = found_entry es c.args.at c.get.result c.in-Some.entry c.get.ensures c.in-Some.is in
    let low = unit_within 1 c.args.at es (logged_entry c.in-Some.entry) c.last-last.ensures.stand found in
    omega (arith, low, c.requires.len, c.requires.there)

pub returns-clause-marks : goal.returns-clause-marks
returns-clause-marks c =
    let es = c.args.journal.now.entries in
    let found = found_entry es c.args.at c.get.result c.in-Some.entry c.get.ensures c.in-Some.is in
    λ unit. marked_next c.args.image unit c.args.at es (logged_entry c.in-Some.entry) (get_or c.mark.new.marks.items unit false) (get_or c.args.marks.now.items unit false) found (c.mark.ensures.marks unit)
