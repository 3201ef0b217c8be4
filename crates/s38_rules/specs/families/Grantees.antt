-- Whose authority is granted or read: that of a user, or of everybody.
use Rattle.std.specs.Prelude.{ℕ, ◌==◌, Bool, true, false, not, ◌&&◌, List, [], length, Option, None, nat_le, if◌then◌else◌}
use Rattle.s38_base.specs.declared.exception.Exception.{Exception}
use Rattle.s38_base.specs.declared.id.Kind.TheVariants as kinds
use Rattle.s38_base.specs.declared.id.ObjNum.{ObjNum}
use Rattle.s38_base.specs.Exceptions as exceptions
use Rattle.s38_base.specs.Limits.{most_rows}
use Rattle.s38_base.specs.RightNames as rights
use Rattle.s38_base.specs.Signals.{fails}
use Rattle.s38_code.specs.declared.operand.Operand.{Operand}
use Rattle.s38_rules.specs.declared.need.Need.{Need}
use Rattle.s38_rules.specs.declared.need.Sought.TheVariants.{Of}
use Rattle.s38_rules.specs.state.Headers.{rights_in_row, rows_in}
use Rattle.s38_rules.specs.state.Held.{Held, object}
use Rattle.s38_rules.specs.ask.Needs.{on_object}
use Rattle.s38_rules.specs.ask.Operands.{is_given, target}
use Rattle.s38_rules.specs.state.PrivateRows.{row_of}
use Rattle.s38_rules.specs.state.Access.{Access, granted, open_to_all}

-- a profile at an operand, of which no right is asked; everybody needs none
abbrev pub user_needs : List Operand → ℕ → List Need
user_needs ops k = if is_given ops k then on_object k (Of kinds.Profile) rights.no_rights None else []

abbrev pub user_at : Held → List Operand → ℕ → ObjNum
user_at h ops k = record { 0 = target h ops k }

-- the rights of a user's row, or those of everybody
abbrev pub rights_of : Bool → ObjNum → Access → ℕ
rights_of true user s = row_of s.rows user.0
rights_of false user s = s.public.0

-- a user's row, or everybody, has these rights from now on
abbrev pub with_rights : Bool → ObjNum → ℕ → Access → Access
with_rights true user r s = granted user (record { 0 = r }) s
with_rights false user r s = open_to_all (record { 0 = r }) s

-- a new row is needed, and the object has as many as it may have
abbrev pub row_rule : Held → ℕ → ℕ → ℕ → Option Exception
row_rule h n user r =
    fails (not (r == rights.no_rights) && ((rights_in_row (object h n) user == rights.no_rights) && nat_le most_rows (length (rows_in (object h n)))))
    exceptions.limit_exceeded 1
