-- In which way an instruction is done.
use Rattle.std.specs.Prelude.{Bool, true, false}
use Rattle.s38_local.specs.declared.way.Way.{Way}
use Rattle.s38_local.specs.declared.way.Way.TheVariants as ways

abbrev pub by_number : Way → Bool
by_number ways.Number = true
by_number _ = false

abbrev pub by_branch : Way → Bool
by_branch ways.Branch = true
by_branch _ = false

abbrev pub by_string : Way → Bool
by_string ways.Text = true
by_string _ = false

abbrev pub by_pointer : Way → Bool
by_pointer ways.Pointer = true
by_pointer _ = false

abbrev pub by_control : Way → Bool
by_control ways.Control = true
by_control _ = false

-- the process does it by itself
abbrev pub is_own : Way → Bool
is_own ways.Shared = false
is_own _ = true
