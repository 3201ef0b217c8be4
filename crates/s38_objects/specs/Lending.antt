-- What the object map holds after something is written through the part of an object that was lent.
use Rattle.std.specs.Prelude.{ℕ, Option}
use Rattle.std.specs.Borrow.{LendsIf, MutBor, Fml, RattleType}
use Rattle.s38_rules.specs.state.Held.{Held}
use Rattle.s38_rules.specs.state.Parts.{Part, over_part}
use Rattle.s38_objects.specs.contracts.objects.Objects.{the_row as objects_row}

-- the object of the number holds what r leaves, and nothing else changes
abbrev pub LendsHeld : (R : RattleType) → Part R.Denot → MutBor Held → ℕ → Option (MutBor R.Denot) → Fml
LendsHeld R p m n r = LendsIf objects_row R m r (λ x. over_part p m.now n (λ _. x)) m.now
