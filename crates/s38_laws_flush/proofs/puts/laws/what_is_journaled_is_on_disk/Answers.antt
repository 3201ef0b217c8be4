use Rattle.s38_laws_flush.proofs.puts.LinkedLaws.{step_linked}
use Rattle.s38_laws_flush.proofs.puts.NamedLaws.{restarted_linked}
use Rattle.s38_laws_flush.proofs.puts.laws.what_is_journaled_is_on_disk.Goals as goal

pub returns-clause-begins : goal.returns-clause-begins
returns-clause-begins c = restarted_linked

pub returns-clause-steps : goal.returns-clause-steps
returns-clause-steps c = step_linked
