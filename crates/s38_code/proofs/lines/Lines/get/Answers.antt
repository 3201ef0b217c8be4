use Rattle.s38_code.proofs.LineLaws.{first_after}
use Rattle.s38_code.proofs.lines.Lines.get.Goals as goal

pub returns : goal.returns
returns c =
    first_after c.args.self.now c.args.at c.split_at-others.result.1 c.next.new.self c.next.result c.split_at-others.ensures.back c.next.ensures.steps
