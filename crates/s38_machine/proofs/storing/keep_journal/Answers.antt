use Rattle.std.proofs.Common.{sym, ap, ◌∙◌}
use Rattle.s38_journals.specs.Journals.{JournalList, forced as forced_journal}
use Rattle.s38_rules.specs.state.Parts.{journal_part, over_part}
use Rattle.s38_rules.proofs.PartLaws.{part_kept, part_written}
use Rattle.s38_machine.proofs.storing.keep_journal.Goals as goal

pub returns-in-Some : goal.returns-in-Some
returns-in-Some c =
    ap (λ (x : JournalList). over_part journal_part c.args.objects.now c.args.number.0 (λ _. x)) c.set_forced.ensures
    ∙ part_written journal_part c.args.objects.now c.args.number.0 forced_journal c.in-Some.journal.now (sym c.in-Some.ensures.value)

pub returns-in_default : goal.returns-in_default
returns-in_default c =
    sym (part_kept journal_part c.args.objects.now c.args.number.0 forced_journal (sym c.in_default.ensures.value))
