use Rattle.std.proofs.Common.{◌∙◌, ap, sym}
use Rattle.std.specs.Prelude.{Some}
use Rattle.s38_journals.specs.Entries.{JournalRecord}
use Rattle.s38_journals.proofs.JournalLaws.{found_entry}
use Rattle.s38_journals.proofs.journal.Journal.get.Goals as goal

pub entry_of-requires-clause-head : goal.entry_of-requires-clause-head
entry_of-requires-clause-head c =
    (found_entry c.args.self.now.entries c.args.seq c.in-Some.bytes.now c.in-Some.ensures.stand c.in-Some.ensures.bytes).head

pub entry_of-requires-clause-before : goal.entry_of-requires-clause-before
entry_of-requires-clause-before c =
    (found_entry c.args.self.now.entries c.args.seq c.in-Some.bytes.now c.in-Some.ensures.stand c.in-Some.ensures.bytes).before

pub returns-in-Some : goal.returns-in-Some
returns-in-Some c =
    ap (λ (e : JournalRecord). Some e) c.entry_of.ensures
    ∙ sym (found_entry c.args.self.now.entries c.args.seq c.in-Some.bytes.now c.in-Some.ensures.stand c.in-Some.ensures.bytes).says
