-- Exceptions that say no more than their number and their operand.
use Rattle.std.specs.Prelude.{ℕ, Bool, true, false, Option, Some, None}
use Rattle.s38_base.specs.declared.exception.Exception.{Exception}
use Rattle.s38_base.specs.declared.exception.Rule.TheVariants.{Plain}

-- an exception about an operand, with no detail
abbrev pub plain : ℕ → ℕ → Exception
plain id operand = record { id = id; operand = operand; rule = Plain }

-- it is signalled where the test holds
abbrev pub fails : Bool → ℕ → ℕ → Option Exception
fails true id operand = Some (plain id operand)
fails false id operand = None

-- the first of two failures
abbrev pub first : Option Exception → Option Exception → Option Exception
first None later = later
first (Some x) later = Some x
