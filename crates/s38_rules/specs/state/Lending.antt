-- What a body is after something is written through the part of it that was lent.
use Rattle.std.specs.Prelude.{Option}
use Rattle.std.specs.Borrow.{LendsIf, MutBor, Fml, RattleType}
use Rattle.s38_rules.specs.declared.object.Body.{Body}
use Rattle.s38_rules.specs.contracts.object.Body.{the_row as body_row}
use Rattle.s38_rules.specs.state.Parts.{Part, over_body}

-- the body holds what r leaves there
abbrev pub LendsPart : (R : RattleType) → Part R.Denot → MutBor Body → Option (MutBor R.Denot) → Fml
LendsPart R p b r = LendsIf body_row R b r (λ x. over_body p (λ _. x) b.now) b.now
