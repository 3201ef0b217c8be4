use Rattle.s38_laws_checkpoint.proofs.prefix.HomeLaws.{store_parts}
use Rattle.s38_laws_checkpoint.proofs.prefix.NamedLaws.{store_names}
use Rattle.s38_laws_checkpoint.proofs.prefix.laws.a_store_names_objects.Goals as goal

pub returns-clause-objects : goal.returns-clause-objects
returns-clause-objects c = λ lay f m stands. store_names lay f m stands

pub returns-clause-parts : goal.returns-clause-parts
returns-clause-parts c = λ lay f m stands are. store_parts lay f m stands are
