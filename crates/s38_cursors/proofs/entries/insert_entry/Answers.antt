use Rattle.std.proofs.Common.{◌≡◌, ap, sym, ◌∙◌}
use Rattle.std.proofs.lemmas.Result.{on_ok_weaker}
use Rattle.std.specs.Prelude.{None, Option}
use Rattle.std.specs.Option.{option_map}
use Rattle.s38_base.specs.declared.id.ObjNum.{ObjNum}
use Rattle.s38_rules.specs.declared.cursor.Cursor.{Cursor}
use Rattle.s38_rules.specs.families.EntryChanges.{insertion, with_inserted}
use Rattle.s38_rules.specs.families.Cursors.{cursor_named}
use Rattle.s38_rules.specs.state.Journaling.{journal_for}
use Rattle.s38_rules.specs.state.PartsAt.{on_table}
use Rattle.s38_cursors.proofs.CursorLaws.{insdsen_met}
use Rattle.s38_cursors.proofs.InsertLaws.{inserted_alone}
use Rattle.s38_cursors.proofs.entries.insert_entry.Goals as goal

pub insert_at-requires : goal.insert_at-requires
insert_at-requires c = rw (c.cursor_in.ensures, c.requires.entry) (insdsen_met c.args.world.now c.args.process c.args.operands.now c.requires.fails)

pub insert_journaled-requires-clause-journal : goal.insert_journaled-requires-clause-journal
insert_journaled-requires-clause-journal c =
    ap (λ (k : Cursor). journal_for c.args.world.now.held k.space.0) (sym c.cursor_in.ensures) ∙ sym c.journal_in.ensures ∙ ap (λ (o : Option ObjNum). option_map (λ n. n.0) o) c.in-Some.is

pub returns-in-None-clause-ok : goal.returns-in-None-clause-ok
returns-in-None-clause-ok c =
    let s = c.args.world.now in
    let ops = c.args.operands.now in
    let none : journal_for s.held (cursor_named s.held ops 1).space.0 ≡ None =
    ap (λ (k : Cursor). journal_for s.held k.space.0) (sym c.cursor_in.ensures) ∙ sym c.journal_in.ensures ∙ ap (λ (o : Option ObjNum). option_map (λ n. n.0) o) c.in-None.is in
    on_ok_weaker c.insert_at.result
    (λ e. e ∙ ap (λ (k : Cursor). record s { held = on_table s.held k.space.0 (with_inserted c.args.entry.now) }) c.cursor_in.ensures
    ∙ inserted_alone s c.args.process (cursor_named s.held ops 1).block.0 (insertion s.held ops) c.args.entry.now none)
    c.insert_at.ensures.ok
