use Rattle.std.proofs.Common.{◌≡◌, ℕ, ◌+◌, ap, sym, ◌∙◌}
use Rattle.std.specs.Prelude.{None}
use Rattle.std.specs.Option.{option_copied, unwrap_or}
use Rattle.s38_rules.specs.families.Changing.{journal_rule}
use Rattle.s38_rules.specs.families.EntryChanges.{change_rules, entry_rule}
use Rattle.s38_rules.specs.state.Journaling.{journal_for}
use Rattle.s38_rules.specs.state.PartsAt.{no_table}
use Rattle.s38_rules.specs.state.State.{State}
use Rattle.s38_cursors.proofs.CursorLaws.{entry_sized, first_rest, first_some}
use Rattle.s38_cursors.proofs.FoundLaws.{insdsen_found}
use Rattle.s38_cursors.proofs.entry_rules.insdsen_fails.Goals as goal

pub returns-in-Some : goal.returns-in-Some
returns-in-Some c =
    let s = c.args.world.now in
    let table = unwrap_or (option_copied c.table_at-table.result) no_table in
    let held : c.world.inside.objects ≡ s.held = ap (λ (x : State). x.held) c.world.view_is in
    let limit : c.world.inside.limit ≡ s.limit = ap (λ (x : State). x.limit) c.world.view_is in
    rw (← insdsen_found s c.args.process c.args.operands.now _ _ c.cursor_of-cursor.result table held limit c.cursor_of-cursor.ensures c.table_at-table.ensures)
    (first_some _ _ _ (sym c.entry_rule.ensures ∙ c.in-Some.is))

pub returns-in-Some-change_rules : goal.returns-in-Some-change_rules
returns-in-Some-change_rules c =
    let s = c.args.world.now in
    let table = unwrap_or (option_copied c.table_at-table.result) no_table in
    let held : c.world.inside.objects ≡ s.held = ap (λ (x : State). x.held) c.world.view_is in
    let limit : c.world.inside.limit ≡ s.limit = ap (λ (x : State). x.limit) c.world.view_is in
    rw (← insdsen_found s c.args.process c.args.operands.now _ _ c.cursor_of-cursor.result table held limit c.cursor_of-cursor.ensures c.table_at-table.ensures)
    (first_rest _ _ _ (sym c.entry_rule.ensures ∙ c.in_default.is)
    (first_some _ _ _
    (ap (change_rules s c.args.process c.cursor_of-cursor.result) (sym c.next_ordinal_in.ensures) ∙ sym c.change_rules.ensures ∙ c.in-Some-change_rules.is)))

pub returns-in-Some-room_rule : goal.returns-in-Some-room_rule
returns-in-Some-room_rule c =
    let s = c.args.world.now in
    let table = unwrap_or (option_copied c.table_at-table.result) no_table in
    let held : c.world.inside.objects ≡ s.held = ap (λ (x : State). x.held) c.world.view_is in
    let limit : c.world.inside.limit ≡ s.limit = ap (λ (x : State). x.limit) c.world.view_is in
    rw (← insdsen_found s c.args.process c.args.operands.now _ _ c.cursor_of-cursor.result table held limit c.cursor_of-cursor.ensures c.table_at-table.ensures)
    (first_rest _ _ _ (sym c.entry_rule.ensures ∙ c.in_default.is)
    (first_rest _ _ _
    (ap (change_rules s c.args.process c.cursor_of-cursor.result) (sym c.next_ordinal_in.ensures) ∙ sym c.change_rules.ensures ∙ c.in_default-change_rules.is)
    (first_some _ _ _ (sym c.room_rule.ensures ∙ c.in-Some-room_rule.is))))

pub returns : goal.returns
returns c =
    let s = c.args.world.now in
    let h = c.world.inside.objects in
    let ops = c.args.operands.now in
    let cursor = c.cursor_of-cursor.result in
    let table = unwrap_or (option_copied c.table_at-table.result) no_table in
    let held : h ≡ s.held = ap (λ (x : State). x.held) c.world.view_is in
    let limit : c.world.inside.limit ≡ s.limit = ap (λ (x : State). x.limit) c.world.view_is in
    let entry : entry_rule table.fields h ops ≡ None = sym c.entry_rule.ensures ∙ c.in_default.is in
    rw (← insdsen_found s c.args.process ops _ _ cursor table held limit c.cursor_of-cursor.ensures c.table_at-table.ensures)
    (first_rest _ _ _ entry
    (first_rest _ _ _
    (ap (change_rules s c.args.process cursor) (sym c.next_ordinal_in.ensures) ∙ sym c.change_rules.ensures ∙ c.in_default-change_rules.is)
    (first_rest _ _ _ (sym c.room_rule.ensures ∙ c.in_default-room_rule.is)
    (c.journal_room.ensures
    ∙ ap (λ (n : ℕ). journal_rule s cursor.block.0 (41 + 0 + n) (journal_for s.held cursor.space.0))
    (c.entry_len_in.ensures.len ∙ sym (entry_sized table.fields h ops entry))))))
