use Rattle.std.proofs.Common.{◌∙◌}
use Rattle.s38_process.proofs.LawfulLaws.{answered_lawful}
use Rattle.s38_process.proofs.process.Process.absorb.Goals as goal

pub returns-clause-lawful : goal.returns-clause-lawful
returns-clause-lawful c =
    answered_lawful c.args.self.now c.settle.new.inner c.answer.new.self c.args.reply.now c.answer.result (c.in-Ok.ensures.ok ∙ c.self.view_is) c.answer.ensures.ok c.answer.ensures.err
