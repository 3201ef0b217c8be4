use Rattle.std.proofs.Common.{◌∙◌, sym, ap}
use Rattle.s38_base.specs.declared.id.ObjNum.{ObjNum}
use Rattle.s38_rules.specs.state.Journaling.{journal_for}
use Rattle.s38_space_rules.proofs.LoggingLaws.{change_forced}
use Rattle.s38_space_rules.specs.Logging.{change_forces}
use Rattle.s38_space_rules.proofs.logging.changed.Goals as goal

pub returns : goal.returns
returns c = λ process made f space before after.
    let w = c.args.world.now in
    let x = c.args.change in
    c.change_forces.ensures
    ∙ ap (λ (n : ObjNum). change_forces w x.block.0 x.before x.after (journal_for w.held n.0)) (sym space)
    ∙ sym (change_forced w process x.block.0 made f x.before x.after before after)
