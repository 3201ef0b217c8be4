use Rattle.s38_page_diff.proofs.AimLaws.{aims_made}
use Rattle.s38_page_diff.proofs.laws.several_aims_are_met.Goals as goal

pub returns : goal.returns
returns c = λ m aims key order. aims_made m aims key order
