use Rattle.std.proofs.Common.{◌≡◌, ap, sym, ◌∙◌}
use Rattle.std.specs.Prelude.{None, Option}
use Rattle.std.specs.Option.{option_copied, option_map}
use Rattle.s38_base.specs.declared.id.ObjNum.{ObjNum}
use Rattle.s38_rules.specs.families.EntryChanges.{change_at}
use Rattle.s38_rules.specs.families.Cursors.{cursor_named}
use Rattle.s38_rules.specs.state.Journaling.{journal_for}
use Rattle.s38_cursors.proofs.CursorLaws.{unlogged}
use Rattle.s38_cursors.proofs.entries.log_current.Goals as goal

pub returns-in-None-clause-ok : goal.returns-in-None-clause-ok
returns-in-None-clause-ok c =
    let s = c.args.world.now in
    let ops = c.args.operands.now in
    let none : journal_for s.held (cursor_named s.held ops 1).space.0 ≡ None =
    ap (journal_for s.held) (sym c.requires.space) ∙ sym c.journal_in.ensures ∙ ap (λ (o : Option ObjNum). option_map (λ n. n.0) o) c.in-None.is in
    unlogged s c.args.process (cursor_named s.held ops 1).block.0 (change_at s.held ops (option_copied c.args.entry)) none
