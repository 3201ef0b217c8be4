use Rattle.s38_laws_images.proofs.readable.TemplateLaws.{templates_made}
use Rattle.s38_laws_images.proofs.readable.laws.created_programs_are_read_again.Goals as goal

pub returns : goal.returns
returns c = λ text deck spells. templates_made text deck spells
