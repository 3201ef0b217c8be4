use Rattle.std.proofs.Common.{ap, not, ◌∙◌}
use Rattle.s38_indexes.specs.Entries.{is_in_relation}
use Rattle.s38_indexes.proofs.CutLaws.{passes_last}
use Rattle.s38_indexes.proofs.OrderLaws.{rising_cut}
use Rattle.s38_indexes.proofs.entries.passes.Goals as goal

pub returns-in-Some : goal.returns-in-Some
returns-in-Some c =
    let relation = c.args.relation in
    let key = c.args.key.now in
    let xs = c.args.entries.now in
    ap not c.fits.ensures ∙ passes_last (is_in_relation relation key) c.in-Some.last.now xs (rising_cut relation key xs c.requires.downward c.requires.rising) c.in-Some.ensures.value
