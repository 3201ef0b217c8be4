use Rattle.s38_laws_bounds.proofs.AskedLaws.{checked_suits}
use Rattle.s38_laws_bounds.proofs.LawfulLaws.{lawful_suits}
use Rattle.s38_laws_bounds.proofs.laws.checked_instructions_suit.Goals as goal

pub returns : goal.returns
returns c = record { suited = checked_suits; asked = lawful_suits }
