-- Operands of which none lies in a space.
use Rattle.std.specs.Prelude.{Bool, true, not, ◌&&◌, List, [], ◌∷◌, Some}
use Rattle.s38_code.specs.declared.operand.Operand.{Operand}
use Rattle.s38_rules.specs.ask.Receivers.{is_in_space}

abbrev pub are_plain : List Operand → Bool
are_plain [] = true
are_plain (operand ∷ more) = not (is_in_space (Some operand)) && are_plain more
