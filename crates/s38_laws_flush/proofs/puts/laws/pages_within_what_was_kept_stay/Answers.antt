use Rattle.s38_laws_flush.proofs.puts.ObjectLaws.{pages_stay}
use Rattle.s38_laws_flush.proofs.puts.laws.pages_within_what_was_kept_stay.Goals as goal

pub returns : goal.returns
returns c = pages_stay
