use Rattle.s38_laws_flush.proofs.durable.CrashLaws.{answered_left, begins_left, during_left, during_stopped, earlier_left, earlier_stopped}
use Rattle.s38_laws_flush.proofs.durable.laws.a_crash_leaves_a_prefix.Goals as goal

pub returns-clause-begins : goal.returns-clause-begins
returns-clause-begins c = begins_left

pub returns-clause-earlier : goal.returns-clause-earlier
returns-clause-earlier c = earlier_left

pub returns-clause-during : goal.returns-clause-during
returns-clause-during c = during_left

pub returns-clause-answered : goal.returns-clause-answered
returns-clause-answered c = answered_left

pub returns-clause-stopped_earlier : goal.returns-clause-stopped_earlier
returns-clause-stopped_earlier c = earlier_stopped

pub returns-clause-stopped_during : goal.returns-clause-stopped_during
returns-clause-stopped_during c = during_stopped
