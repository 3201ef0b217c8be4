use Rattle.std.proofs.Common.{sym, ap, ◌∙◌}
use Rattle.s38_journals.specs.Entries.{logged_entry}
use Rattle.s38_journals.specs.Journals.{JournalList}
use Rattle.s38_rules.specs.state.Parts.{journal_part, over_part}
use Rattle.s38_rules.specs.families.Units.{journal_with_entry}
use Rattle.s38_rules.proofs.PartLaws.{part_kept, part_written}
use Rattle.s38_units.proofs.units.write_in.Goals as goal

pub returns-in-Some : goal.returns-in-Some
returns-in-Some c =
    ap (λ (x : JournalList). over_part journal_part c.args.objects.now c.args.journal.0 (λ _. x)) c.write.ensures
    ∙ part_written journal_part c.args.objects.now c.args.journal.0 (journal_with_entry (logged_entry c.args.entry.now)) c.in-Some.held.now (sym c.in-Some.ensures.value)

pub returns-in_default : goal.returns-in_default
returns-in_default c =
    sym (part_kept journal_part c.args.objects.now c.args.journal.0 (journal_with_entry (logged_entry c.args.entry.now)) (sym c.in_default.ensures.value))
