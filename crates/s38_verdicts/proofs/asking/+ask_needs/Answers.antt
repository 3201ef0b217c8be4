use Rattle.std.proofs.Common.{sym, ◌∙◌}
use Rattle.s38_verdicts.proofs.AskedLaws.{first_left}
use Rattle.s38_verdicts.proofs.asking.+ask_needs.Goals as goal

pub returns-in-None-clause-checked : goal.returns-in-None-clause-checked
returns-in-None-clause-checked t c =
    first_left c.args.world.now c.ask_need.new.world c.ask_needs.new.world c.args.act.process c.args.act.depth c.args.act.request.now.operands c.args.needs.now _
    c.in-len1-up.len_at_least (sym c.ask_need.ensures.rule ∙ c.in-None.is) c.ask_need.ensures.checked c.ask_needs.ensures.checked
