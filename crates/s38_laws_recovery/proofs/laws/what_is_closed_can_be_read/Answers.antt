use Rattle.s38_laws_recovery.proofs.EndLaws.{closing_images}
use Rattle.s38_laws_recovery.proofs.laws.what_is_closed_can_be_read.Goals as goal

pub returns : goal.returns
returns c = λ s bodies settles again. closing_images s bodies settles again
