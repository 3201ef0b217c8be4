-- The users that are there, in rising order of number, each with its specials, limit and charge.
use Rattle.std.specs.Prelude.{◌≡◌, ℕ, ◌==◌, Option, Some, None, List, if◌then◌else◌}
use Rattle.std.specs.Map.{lookup, remove_entry, set_value}
use Rattle.std.specs.Ordering.{nat_cmp}
use Rattle.std.specs.BTreeMap.{insert_entry, is_at}
use Rattle.s38_base.specs.declared.rights.Special.{Special}
use Rattle.s38_profiles.specs.declared.profile.Profile.{Profile}

abbrev pub Users : Type 0
Users = List (ℕ × Profile)

abbrev pub user_at : Users → ℕ → Option Profile
user_at users user = lookup (is_at (nat_cmp user)) users

-- the pages that a user pays for, 0 of one that is not there
abbrev pub charge_in : Option Profile → ℕ
charge_in (Some profile) = profile.charge
charge_in None = 0

abbrev pub limit_in : Option Profile → ℕ
limit_in (Some profile) = profile.limit
limit_in None = 0

abbrev pub special_in : Option Profile → Special
special_in (Some profile) = profile.special
special_in None = record { 0 = 0 }

-- what is kept of a user that is given specials and a limit; a new one pays for nothing
abbrev pub entered : Special → ℕ → Option Profile → Profile
entered special limit before = record { special = special; limit = limit; charge = charge_in before }

-- the users with these specials and this limit of one
abbrev pub with_user : Users → ℕ → Special → ℕ → Users
with_user users user special limit = insert_entry nat_cmp users user (entered special limit (user_at users user))

-- what is kept of a user that pays for as many pages
abbrev pub charged : ℕ → Option Profile → Profile
charged pages before = record { special = special_in before; limit = limit_in before; charge = pages }

-- the users with another charge of one that is there
abbrev pub with_charge : Users → ℕ → ℕ → Users
with_charge users user pages = set_value (is_at (nat_cmp user)) users (charged pages (user_at users user))

abbrev pub without_user : Users → ℕ → Users
without_user users user = remove_entry (is_at (nat_cmp user)) users

-- a user has this profile afterwards, or none, and no other user changes
abbrev pub SetsUser : Users → ℕ → Option Profile → Users → Type 0
SetsUser users user profile after = (other : ℕ) → user_at after other ≡ (if user == other then profile else user_at users other)
