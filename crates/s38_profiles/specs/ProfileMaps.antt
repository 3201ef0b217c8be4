-- The rows and the users, and how many rows were visited. A row counts only while its user is there.
use Rattle.std.specs.Prelude.{ℕ, Option, Some, None}
use Rattle.std.specs.Option.{unwrap_or}
use Rattle.s38_base.specs.declared.rights.Rights.{Rights}
use Rattle.s38_profiles.specs.declared.profile.Profile.{Profile}
use Rattle.s38_profiles.specs.Rows.{Rows, row_at, row_key}
use Rattle.s38_profiles.specs.Users.{Users, user_at}

pub record ProfileMaps : Type 0 where
  pub rows : Rows
  pub users : Users
  pub visits : ℕ

abbrev pub no_rights : Rights
no_rights = record { 0 = 0 }

abbrev pub counted : Option Profile → Option Rights → Rights
counted None row = no_rights
counted (Some profile) row = unwrap_or row no_rights

-- the rights of a user in the rows of an object
abbrev pub row_of : ProfileMaps → ℕ → ℕ → Rights
row_of maps user object = counted (user_at maps.users user) (row_at maps.rows (row_key user object))
