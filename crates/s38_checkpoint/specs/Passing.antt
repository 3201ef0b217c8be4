-- The objects that were gone through.
use Rattle.std.specs.Prelude.{ℕ, List, [], ◌∷◌}
use Rattle.s38_rules.specs.declared.object.Object.{Object}

-- the number of the last one, 0 without one
abbrev pub last_object_number : List Object → ℕ
last_object_number [] = 0
last_object_number (o ∷ []) = o.number.0
last_object_number (o ∷ p ∷ os) = last_object_number (p ∷ os)
