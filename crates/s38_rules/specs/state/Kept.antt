-- What is kept of users beside the objects, so that neither rights nor pages are sought among all of them: exactly
-- what the objects say.
use Rattle.std.specs.Prelude.{◌≡◌, ◌≤◌, ◌<◌, ◌^◌, ℕ, ◌==◌, Option, Some, None, if◌then◌else◌}
use Rattle.s38_base.specs.declared.rights.Rights.{Rights}
use Rattle.s38_base.specs.RightNames as rights
use Rattle.s38_profiles.specs.declared.profile.Profile.{Profile}
use Rattle.s38_profiles.specs.ProfileMaps.{ProfileMaps}
use Rattle.s38_profiles.specs.Rows.{row_at, row_key}
use Rattle.s38_profiles.specs.Users.{user_at}
use Rattle.s38_rules.specs.declared.object.Body.{Body}
use Rattle.s38_rules.specs.declared.object.Body.TheVariants as bodies
use Rattle.s38_rules.specs.declared.object.Object.{Object}
use Rattle.s38_rules.specs.state.Headers.{rights_in_row}
use Rattle.s38_rules.specs.state.Held.{Held, charge_in, object}

abbrev pub kept_row : ℕ → Option Rights
kept_row r = if r == rights.no_rights then None else Some (record { 0 = r })

abbrev pub profile_by : Body → ℕ → Option Profile
profile_by (bodies.Profile special limit) charge = Some (record { special = special; limit = limit; charge = charge })
profile_by _ charge = None

-- what is kept of a user, who pays for so many pages
abbrev pub kept_profile : Option Object → ℕ → Option Profile
kept_profile None charge = None
kept_profile (Some o) charge = profile_by o.body charge

pub record Mirrors (maps : ProfileMaps) (h : Held) : Type 0 where
  -- each right of a user's row
  pub rows : (user n : ℕ) → row_at maps.rows (row_key user n) ≡ kept_row (rights_in_row (object h n) user)
  -- each profile, with what its user pays for
  pub users : (user : ℕ) → user_at maps.users user ≡ kept_profile (object h user) (charge_in h.objects user)
  -- a number that was not given owns nothing
  pub unowned : (user : ℕ) → h.next ≤ user → charge_in h.objects user ≡ 0

-- what the objects say of users can be kept: owners were given their numbers, and no charge is too large to count
pub record CanBeKept (h : Held) : Type 0 where
  pub unowned : (user : ℕ) → h.next ≤ user → charge_in h.objects user ≡ 0
  pub counted : (user : ℕ) → charge_in h.objects user < 2 ^ 64
