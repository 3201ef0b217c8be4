use Rattle.s38_laws_objects.proofs.EventLaws.{first_well, installed_well}
use Rattle.s38_laws_objects.proofs.laws.objects_begin_well.Goals as goal

pub returns-clause-first : goal.returns-clause-first
returns-clause-first c = first_well

pub returns-clause-installed : goal.returns-clause-installed
returns-clause-installed c = installed_well
