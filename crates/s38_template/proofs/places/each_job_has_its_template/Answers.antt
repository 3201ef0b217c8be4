use Rattle.s38_template.proofs.TemplatePlaces.{job_has_template}
use Rattle.s38_template.proofs.places.each_job_has_its_template.Goals as goal

pub returns : goal.returns
returns c = job_has_template
