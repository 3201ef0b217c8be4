use Rattle.s38_create.proofs.RefusalLemmas.{created-decided}
use Rattle.s38_create.proofs.creation.refusals_have_a_place.Goals as goal

pub returns : goal.returns
returns c = created-decided c.args.template.now
