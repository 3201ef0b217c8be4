use Rattle.std.proofs.Common.{◌≡◌, ℕ, ◌+◌, length, false, ap, sym, ◌∙◌}
use Rattle.std.specs.Prelude.{Option, is_some}
use Rattle.std.specs.Option.{unwrap_or}
use Rattle.s38_journals.specs.Journals.{JournalList, room_refusal}
use Rattle.s38_rules.specs.state.PartsAt.{journal_at, no_journal}
use Rattle.s38_units.proofs.OpenLaws.{room_for_all}
use Rattle.s38_units.proofs.rules.is_journal_full.Goals as goal

pub returns-then-not-is_full : goal.returns-then-not-is_full
returns-then-not-is_full c =
    let h = c.args.objects.now in
    let units = c.args.units.now in
    let bytes = c.args.bytes in
    let fits : is_some (room_refusal (journal_at h c.args.journal.0) bytes (length units + 1)) ≡ false =
    ap (λ (k : ℕ). is_some (room_refusal (journal_at h c.args.journal.0) bytes (k + 1))) (sym c.all_units.ensures.count)
    ∙ ap (λ (j : Option JournalList). is_some (room_refusal (unwrap_or j no_journal) bytes (c.all_units.result + 1))) (sym c.journal.ensures)
    ∙ sym c.if-not-is_full.ensures in
    sym (room_for_all h units c.args.journal.0 c.args.block.0 bytes fits)
