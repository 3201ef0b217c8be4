use Rattle.std.proofs.Common.{◌≡◌, ℕ, ap, subst, ◌∙◌}
use Rattle.std.specs.Prelude.{None, Option}
use Rattle.s38_commits.specs.declared.change.UnitChange.{UnitChange}
use Rattle.s38_commits.specs.Changes.{journal_bytes}
use Rattle.s38_cursors.specs.Insertion.{insertion_logged}
use Rattle.s38_rules.specs.declared.cursor.Cursor.{Cursor}
use Rattle.s38_rules.specs.families.Changing.{journal_rule}
use Rattle.s38_rules.specs.families.EntryChanges.{insertion}
use Rattle.s38_rules.specs.families.Cursors.{cursor_named}
use Rattle.s38_rules.specs.state.Journaling.{journal_for}
use Rattle.s38_cursors.proofs.CursorLaws.{insdsen_free, insdsen_limits, insdsen_met, insdsen_sized}
use Rattle.s38_cursors.proofs.entries.insert_journaled.Goals as goal

pub insert_logged-requires-clause-there : goal.insert_logged-requires-clause-there
insert_logged-requires-clause-there c = ap (λ (k : UnitChange). journal_for c.args.world.now.held k.space.0) c.in-Ok.ensures ∙ c.requires.journal

pub insert_logged-requires-clause-free : goal.insert_logged-requires-clause-free
insert_logged-requires-clause-free c =
    rw (c.in-Ok.ensures, c.cursor_in-cursor.ensures) (insdsen_free c.args.world.now c.args.process c.args.operands.now c.requires.fails)

pub insert_logged-requires-clause-limits : goal.insert_logged-requires-clause-limits
insert_logged-requires-clause-limits c =
    let s = c.args.world.now in
    let ops = c.args.operands.now in
    rw (c.in-Ok.ensures, c.cursor_in-cursor.ensures)
    (subst (λ (j : Option ℕ). journal_rule s (cursor_named s.held ops 1).block.0 (journal_bytes (insertion s.held ops)) j ≡ None) c.requires.journal (insdsen_limits s c.args.process ops c.requires.fails).1)

pub insert_logged-requires-clause-len : goal.insert_logged-requires-clause-len
insert_logged-requires-clause-len c = rw (c.in-Ok.ensures, c.requires.entry) (insdsen_sized c.args.world.now c.args.process c.args.operands.now c.requires.fails)

pub insert_logged-requires-clause-image : goal.insert_logged-requires-clause-image
insert_logged-requires-clause-image c = rw c.in-Ok.ensures (insdsen_limits c.args.world.now c.args.process c.args.operands.now c.requires.fails).0

pub insert_logged-requires-clause-values : goal.insert_logged-requires-clause-values
insert_logged-requires-clause-values c = rw (c.in-Ok.ensures, c.requires.entry) (insdsen_met c.args.world.now c.args.process c.args.operands.now c.requires.fails)

pub returns-in-Ok-insert_logged-clause-ok : goal.returns-in-Ok-insert_logged-clause-ok
returns-in-Ok-insert_logged-clause-ok c =
    let s = c.args.world.now in
    let ops = c.args.operands.now in
    c.in-Ok-insert_logged.ensures.ok
    ∙ ap (λ (k : Cursor). insertion_logged s c.args.process k.block.0 c.in-Ok.change c.args.entry.now) c.cursor_in-cursor.ensures
    ∙ ap (λ (k : UnitChange). insertion_logged s c.args.process (cursor_named s.held ops 1).block.0 k c.args.entry.now) c.in-Ok.ensures
