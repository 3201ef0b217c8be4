use Rattle.s38_laws_flush.proofs.durable.CleanLaws.{cleaned_represents_left}
use Rattle.s38_laws_flush.proofs.durable.laws.what_belongs_to_nothing_can_be_taken_away.Goals as goal

pub returns : goal.returns
returns c = cleaned_represents_left
