use Rattle.std.proofs.Common.{◌≡◌, ℕ, List, subst, sym}
use Rattle.std.specs.Prelude.{None, Some}
use Rattle.s38_rules.specs.families.EntryChanges.{change_at, current_fails}
use Rattle.s38_rules.specs.families.Cursors.{cursor_named}
use Rattle.s38_cursors.proofs.CursorLaws.{updsen_current, updsen_met, updsen_valued}
use Rattle.s38_cursors.proofs.InsertLaws.{logged_table}
use Rattle.s38_cursors.proofs.entries.update_entry.Goals as goal

pub log_current-requires-clause-fails : goal.log_current-requires-clause-fails
log_current-requires-clause-fails c =
    subst (λ (bytes : List ℕ). current_fails c.args.world.now c.args.process c.args.operands.now (Some bytes) ≡ None) (sym c.requires.entry)
    (updsen_current c.args.world.now c.args.process c.args.operands.now c.requires.fails)

pub update_at-requires-clause-fits : goal.update_at-requires-clause-fits
update_at-requires-clause-fits c =
    let s = c.args.world.now in
    let ops = c.args.operands.now in
    let cursor = cursor_named s.held ops 1 in
    rw (c.in-Ok.ensures.ok, c.cursor_in-cursor.ensures, logged_table s c.args.process cursor.block.0 (change_at s.held ops (Some c.args.entry.now)) cursor.space.0, c.requires.entry)
    (updsen_met s c.args.process ops c.requires.fails)

pub update_at-requires-clause-values : goal.update_at-requires-clause-values
update_at-requires-clause-values c =
    let s = c.args.world.now in
    let ops = c.args.operands.now in
    let cursor = cursor_named s.held ops 1 in
    rw (c.in-Ok.ensures.ok, c.cursor_in-cursor.ensures, logged_table s c.args.process cursor.block.0 (change_at s.held ops (Some c.args.entry.now)) cursor.space.0, c.requires.entry)
    (updsen_valued s c.args.process ops c.requires.fails)
