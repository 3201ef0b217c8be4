-- What is said of an object beside its name and what it holds: its header, and a user's private row.
use Rattle.std.specs.Prelude.{ℕ, Bool, false, List, [], Option, Some, None}
use Rattle.s38_base.specs.RightNames as rights
use Rattle.s38_base.specs.declared.rights.Rights.{Rights}
use Rattle.s38_rules.specs.declared.object.Object.{Object}
use Rattle.s38_rules.specs.declared.object.Body.{Body}
use Rattle.s38_rules.specs.declared.object.Body.TheVariants as bodies
use Rattle.s38_rules.specs.declared.rows.PrivateRow.{PrivateRow}
use Rattle.s38_rules.specs.declared.table.Header.{Header}
use Rattle.s38_rules.specs.state.Held.{kind_of}
use Rattle.s38_rules.specs.state.PrivateRows.{row_of}

-- the special authorities of a user, none for other kinds
abbrev pub special_of : Body → ℕ
special_of (bodies.Profile special limit) = special.0
special_of _ = rights.no_rights

abbrev pub special_in : Option Object → ℕ
special_in None = rights.no_rights
special_in (Some o) = special_of o.body

-- how many pages a user may own
abbrev pub limit_of : Body → ℕ
limit_of (bodies.Profile special limit) = limit
limit_of _ = 0

abbrev pub adopts : Body → Bool
adopts (bodies.Program program) = program.adopts
adopts _ = false

abbrev pub propagates : Body → Bool
propagates (bodies.Program program) = program.propagates
propagates _ = false

abbrev pub header_of : Object → Header
header_of o =
    record {
      kind = kind_of o.body;
      owner = o.owner;
      public = o.public;
      adopts = adopts o.body;
      propagates = propagates o.body;
      special = record { 0 = special_of o.body };
      limit = limit_of o.body;
    }

abbrev pub header_in : Option Object → Option Header
header_in None = None
header_in (Some o) = Some (header_of o)

-- the rights of everybody
abbrev pub public_in : Option Object → ℕ
public_in None = rights.no_rights
public_in (Some o) = o.public.0

-- the rights of everybody, where there is an object
abbrev pub public_of : Option Object → Option Rights
public_of None = None
public_of (Some o) = Some o.public

-- ---- private rows

abbrev pub rows_in : Option Object → List PrivateRow
rows_in None = []
rows_in (Some o) = o.rows

-- the rights of a user's private row on an object
abbrev pub rights_in_row : Option Object → ℕ → ℕ
rights_in_row None user = rights.no_rights
rights_in_row (Some o) user = row_of o.rows user
