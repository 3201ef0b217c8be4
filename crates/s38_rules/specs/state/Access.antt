-- Who may do what with an object: who owns it, what everybody may do with it, and the private rows of users.
use Rattle.std.specs.Prelude.{ℕ, List}
use Rattle.s38_base.specs.declared.id.ObjNum.{ObjNum}
use Rattle.s38_base.specs.declared.rights.Rights.{Rights}
use Rattle.s38_rules.specs.declared.object.Object.{Object}
use Rattle.s38_rules.specs.declared.rows.PrivateRow.{PrivateRow}
use Rattle.s38_rules.specs.state.Held.{Held, change}
use Rattle.s38_rules.specs.state.PrivateRows.{with_row}

pub record Access : Type 0 where
  pub owner : ObjNum
  pub public : Rights
  pub rows : List PrivateRow

abbrev pub access_of : Object → Access
access_of o = record { owner = o.owner; public = o.public; rows = o.rows }

abbrev pub with_access : Access → Object → Object
with_access s o = record o { owner = s.owner; public = s.public; rows = s.rows }

-- the object of a number has another owner or other rights from now on
abbrev pub on_access : Held → ℕ → (Access → Access) → Held
on_access h n f = change h n (λ o. with_access (f (access_of o)) o)

-- ---- what is changed of owner and rights

abbrev pub owned_by : ObjNum → Access → Access
owned_by user s = record s { owner = user }

abbrev pub open_to_all : Rights → Access → Access
open_to_all r s = record s { public = r }

abbrev pub granted : ObjNum → Rights → Access → Access
granted user r s = record s { rows = with_row s.rows user r }
