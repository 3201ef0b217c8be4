-- What a need carries is what its pointer carries.
use Rattle.std.proofs.Common.{◌≡◌, ℕ, List, refl}
use Rattle.s38_base.specs.Pointers.{carried_in}
use Rattle.s38_code.specs.declared.operand.Operand.{Operand}
use Rattle.s38_verdicts.specs.Resolved.{pointer_for}
use Rattle.s38_rules.specs.declared.need.Named.{Named}
use Rattle.s38_rules.specs.declared.need.Named.TheVariants.{Written, Implied}
use Rattle.s38_rules.specs.state.Held.{Held}
use Rattle.s38_rules.specs.ask.RightsRules.{carried_for}

pub carried_by_pointer : (h : Held) (ops : List Operand) (k : ℕ) (named : Named) → carried_for h ops k named ≡ carried_in (pointer_for h ops k named)
carried_by_pointer h ops k Written = refl
carried_by_pointer h ops k (Implied n) = refl
