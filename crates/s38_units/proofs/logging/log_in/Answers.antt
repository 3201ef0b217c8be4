use Rattle.std.proofs.Common.{◌≡◌, ℕ, ◌+◌, sym, ap, ◌∙◌}
use Rattle.std.proofs.lemmas.Result.{on_ok_weaker, on_err_weaker}
use Rattle.std.specs.Prelude.{Option, Some}
use Rattle.std.specs.Option.{unwrap_or}
use Rattle.s38_commits.specs.Changes.{journal_bytes}
use Rattle.s38_journals.specs.Entries.{JournalRecord, logged_entry}
use Rattle.s38_journals.specs.Journals.{JournalList}
use Rattle.s38_rules.specs.families.Changing.{change_entry, next_sequence, number_for, with_change_logged}
use Rattle.s38_rules.specs.state.Journaling.{open_after}
use Rattle.s38_rules.specs.state.Parts.{journal_part, over_part, part_at}
use Rattle.s38_rules.specs.state.PartsAt.{journal_at, no_journal}
use Rattle.s38_rules.specs.state.LawfulParts.{journal_lawful}
use Rattle.s38_rules.proofs.PartLaws.{part_same, part_written}
use Rattle.s38_units.specs.Logging.{entry_in, journal_logged, number_in}
use Rattle.s38_units.proofs.logging.log_in.Goals as goal

pub returns-clause-objects : goal.returns-clause-objects
returns-clause-objects c =
    let h = c.args.objects.now in
    let n = c.args.journal.0 in
    let units = c.args.units.now in
    let block = c.args.block.0 in
    let change = c.args.change.now in
    let held = c.in-Some.held.now in
    let told : part_at journal_part h n ≡ Some held = sym c.in-Some.ensures.value in
    let here : journal_at h n ≡ held = ap (λ (o : Option JournalList). unwrap_or o no_journal) told in
    let next : c.last.result + 1 ≡ next_sequence (journal_at h n) = ap (λ (k : ℕ). k + 1) c.last.ensures.last ∙ ap next_sequence (sym here) in
    let number : c.number_for-number.result ≡ number_in h units block n = c.number_for-number.ensures ∙ ap (number_for units block) next in
    let entry : logged_entry c.change_entry-entry.result ≡ entry_in h units c.args.process block change n =
    c.change_entry-entry.ensures ∙ ap (λ (k : ℕ). change_entry k c.args.process change) number in
    let same : with_change_logged (journal_bytes change) c.open_after-units_open.result (logged_entry c.change_entry-entry.result) held
    ≡ journal_logged h units c.args.process block change n held =
    ap (λ (k : ℕ). with_change_logged (journal_bytes change) k (logged_entry c.change_entry-entry.result) held) c.open_after-units_open.ensures
    ∙ ap (λ (e : JournalRecord). with_change_logged (journal_bytes change) (open_after h units n block) e held) entry in
    on_ok_weaker c.log_entry.result
    (λ e. ap (λ (x : JournalList). over_part journal_part h n (λ _. x)) (e ∙ same)
    ∙ part_written journal_part h n (journal_logged h units c.args.process block change n) held told)
    c.log_entry.ensures.journal

pub returns-clause-objects_left : goal.returns-clause-objects_left
returns-clause-objects_left c =
    on_err_weaker c.log_entry.result
    (λ e. ap (λ (x : JournalList). over_part journal_part c.args.objects.now c.args.journal.0 (λ _. x)) e
    ∙ part_same journal_part journal_lawful c.args.objects.now c.args.journal.0 c.in-Some.held.now (sym c.in-Some.ensures.value))
    c.log_entry.ensures.journal_left
