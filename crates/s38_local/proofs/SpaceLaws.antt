-- Where no item is declared in a space, no operand lies in one.
use Rattle.std.proofs.Common.{◌≡◌, ℕ, zero, suc, Bool, true, false, ◌&&◌, not, List, [], ◌∷◌, refl}
use Rattle.std.proofs.Math.Bool.{and-true}
use Rattle.std.proofs.lemmas.Bool.{or_parts}
use Rattle.std.specs.Prelude.{slice_get, Some}
use Rattle.std.specs.List.{list_any}
use Rattle.s38_code.specs.declared.program.Arg.{Arg}
use Rattle.s38_code.specs.declared.program.Arg.TheVariants as args
use Rattle.s38_code.specs.declared.program.Instruction.{Instruction}
use Rattle.s38_code.specs.declared.program.Row.{Row}
use Rattle.s38_local.specs.Local.{declares_space, is_local, is_local_op, lies_in_space}
use Rattle.s38_local.specs.Variables.{form_in, is_based}

none_at : (rows : List Row) (k : ℕ) → declares_space rows ≡ false → is_based (form_in (slice_get rows k)) ≡ false
none_at [] k none = refl
none_at (row ∷ rows) zero none = (or_parts (is_based (Some row.form)) (declares_space rows) none).0
none_at (row ∷ rows) (suc k) none = none_at rows k (or_parts (is_based (Some row.form)) (declares_space rows) none).1

none_lies : (rows : List Row) (arg : Arg) → declares_space rows ≡ false → lies_in_space rows arg ≡ false
none_lies rows (args.Item k) none = none_at rows k none
none_lies rows _ none = refl

none_there : (rows : List Row) (given : List Arg) → declares_space rows ≡ false → list_any (lies_in_space rows) given ≡ false
none_there rows [] none = refl
none_there rows (arg ∷ given) none = rw (none_lies rows arg none) (none_there rows given none)

-- there the operation alone decides
pub local_where_none : (rows : List Row) (i : Instruction) → declares_space rows ≡ false → is_local rows i ≡ is_local_op i.op
unfolding is_local
local_where_none rows i none = rw (none_there rows i.args none) (and-true (is_local_op i.op))
