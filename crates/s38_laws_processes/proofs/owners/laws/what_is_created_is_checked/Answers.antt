use Rattle.s38_laws_processes.proofs.owners.CreateLaws.{program_checked, template_checked}
use Rattle.s38_laws_processes.proofs.owners.laws.what_is_created_is_checked.Goals as goal

-- src/laws.rt:1:1
pub returns : goal.returns
returns c = record { templates = template_checked; programs = program_checked }
