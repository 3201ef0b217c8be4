use Rattle.s38_top.proofs.TopLaws.{some_is}
use Rattle.s38_top.proofs.top.run_top.Goals as goal

pub returns-clause-answered : goal.returns-clause-answered
returns-clause-answered g c =
    some_is _ c.reported.result.disk c.decide_on_threads-decided.result.disk c.reported.ensures.disk (c.reported.ensures.answered _ _ _ _ _ _ _ c.decide_on_threads-decided.ensures.decided c.decide_on_threads-decided.ensures.safe)
