use Rattle.s38_laws_commits.proofs.OrdinalLaws.{restart_at, restart_fields}
use Rattle.s38_laws_commits.proofs.ordinals.a_restart_goes_by_ordinals.Goals as goal

pub returns-clause-entries : goal.returns-clause-entries
returns-clause-entries c = restart_at

pub returns-clause-fields : goal.returns-clause-fields
returns-clause-fields c = restart_fields
