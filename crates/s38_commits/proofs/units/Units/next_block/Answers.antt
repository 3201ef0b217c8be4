use Rattle.std.proofs.Common.{sym, ◌∙◌, ap}
use Rattle.s38_commits.proofs.NextLaws.{first_block, next_read}
use Rattle.s38_commits.proofs.units.Units.next_block.Goals as goal

pub returns-in-Some-clause-next : goal.returns-in-Some-clause-next
returns-in-Some-clause-next c =
    ap first_block (sym c.in-Some.ensures.steps)
    ∙ next_read c.self.inside.units.entries c.args.self.now c.range.result c.args.after.0 c.self.view_is (c.range.ensures.between tt)

pub returns-in-None-clause-next : goal.returns-in-None-clause-next
returns-in-None-clause-next c =
    ap first_block (sym c.in-None.ensures.steps.0)
    ∙ next_read c.self.inside.units.entries c.args.self.now c.range.result c.args.after.0 c.self.view_is (c.range.ensures.between tt)
