use Rattle.std.proofs.Common.{◌≡◌, ap, sym, ◌∙◌}
use Rattle.std.specs.Prelude.{None, Some}
use Rattle.std.specs.Option.{option_copied, unwrap_or}
use Rattle.s38_rules.specs.families.EntryChanges.{entry_rule}
use Rattle.s38_rules.specs.ask.Operands.{bytes_at}
use Rattle.s38_rules.specs.state.PartsAt.{no_table}
use Rattle.s38_rules.specs.state.State.{State}
use Rattle.s38_cursors.proofs.CursorLaws.{entry_sized, first_rest, first_some}
use Rattle.s38_cursors.proofs.FoundLaws.{updsen_found}
use Rattle.s38_cursors.proofs.entry_rules.updsen_fails.Goals as goal

pub returns-in-Some : goal.returns-in-Some
returns-in-Some c =
    let h = c.world.inside.objects in
    let table = unwrap_or (option_copied c.table_at-table.result) no_table in
    let held : h ≡ c.args.world.now.held = ap (λ (s : State). s.held) c.world.view_is in
    rw (← updsen_found c.args.world.now c.args.process c.args.operands.now h c.cursor_of-cursor.result table held c.cursor_of-cursor.ensures c.table_at-table.ensures)
    (first_some _ _ _ (sym c.entry_rule.ensures ∙ c.in-Some.is))

pub returns : goal.returns
returns c =
    let h = c.world.inside.objects in
    let ops = c.args.operands.now in
    let table = unwrap_or (option_copied c.table_at-table.result) no_table in
    let held : h ≡ c.args.world.now.held = ap (λ (s : State). s.held) c.world.view_is in
    let entry : entry_rule table.fields h ops ≡ None = sym c.entry_rule.ensures ∙ c.in_default.is in
    rw (← updsen_found c.args.world.now c.args.process ops h c.cursor_of-cursor.result table held c.cursor_of-cursor.ensures c.table_at-table.ensures)
    (first_rest _ _ _ entry
    (c.current_entry_fails.ensures (Some (bytes_at h ops 2)) (entry_sized table.fields h ops entry ∙ sym c.entry_len_in.ensures.len)))
