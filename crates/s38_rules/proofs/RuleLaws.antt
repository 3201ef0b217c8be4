-- What holds where no rule fails.
use Rattle.std.proofs.Common.{◌≡◌, ℕ, Bool, true, false, not, Option, None, Some, refl}
use Rattle.s38_base.specs.declared.exception.Exception.{Exception}
use Rattle.s38_base.specs.Signals.{fails, first}

-- where the first of two failures is none, both are
pub first_none : (a b : Option Exception) → first a b ≡ None → (a ≡ None) × (b ≡ None)
first_none None b h = (refl, h)
first_none (Some x) b h = cc

pub fails_none : (test : Bool) (id operand : ℕ) → fails test id operand ≡ None → test ≡ false
fails_none true id operand h = cc
fails_none false id operand h = refl

pub not_false : (b : Bool) → not b ≡ false → b ≡ true
not_false true h = refl
not_false false h = cc
