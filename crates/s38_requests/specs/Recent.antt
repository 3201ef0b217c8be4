-- The latest operands of the instructions of a program, by their places, which are counted round.
use Rattle.std.specs.Prelude.{ℕ, ◌%◌, List, Option, None, Some, replicate, slice_index_or, slice_set}
use Rattle.s38_code.specs.declared.operand.Operand.{Operand}

-- so many places are told apart
abbrev pub places : ℕ
places = 8

-- what is kept before anything was asked
abbrev pub nothing_kept : List (Option (List Operand))
nothing_kept = replicate places None

-- what is kept for an instruction
abbrev pub latest : List (Option (List Operand)) → ℕ → Option (List Operand)
latest kept at = slice_index_or kept (at % places) None

-- once these operands are kept for it
abbrev pub with_latest : List (Option (List Operand)) → ℕ → List Operand → List (Option (List Operand))
with_latest kept at operands = slice_set kept (at % places) (Some operands)
