use Rattle.s38_laws_units.proofs.StepLaws.{end_after, end_here}
use Rattle.s38_laws_units.proofs.laws.ends_are_written.Goals as goal

-- src/laws.rt:34:1
pub returns-clause-committed : goal.returns-clause-committed
returns-clause-committed c = end_here

-- src/laws.rt:34:1
pub returns-clause-decommitted : goal.returns-clause-decommitted
returns-clause-decommitted c = end_after
