-- What is kept of users and of their rows while it is changed step by step: over any list of objects, and any charges.
use Rattle.std.specs.Prelude.{◌≡◌, ℕ, ◌==◌, List, Option, IsSome, if◌then◌else◌}
use Rattle.std.specs.Option.{option_map}
use Rattle.s38_profiles.specs.declared.profile.Profile.{Profile}
use Rattle.s38_profiles.specs.Rows.{Rows, row_at, row_key}
use Rattle.s38_profiles.specs.Users.{Users, user_at}
use Rattle.s38_rules.specs.declared.object.Object.{Object}
use Rattle.s38_rules.specs.state.Headers.{rights_in_row}
use Rattle.s38_rules.specs.state.Held.{object_in}
use Rattle.s38_rules.specs.state.Kept.{kept_profile, kept_row}

-- each right of a user's row on an object is kept
abbrev pub AreKeptRows : Rows → List Object → Type 0
AreKeptRows rows os = (user n : ℕ) → row_at rows (row_key user n) ≡ kept_row (rights_in_row (object_in os n) user)

-- each profile among the objects is kept, with a charge of its user
abbrev pub AreUsers : Users → List Object → (ℕ → ℕ) → Type 0
AreUsers users os charges = (user : ℕ) → user_at users user ≡ kept_profile (object_in os user) (charges user)

-- a user is among the objects
abbrev pub IsUser : List Object → ℕ → Type 0
IsUser os user = IsSome (kept_profile (object_in os user) 0)

-- one user pays for so many pages
abbrev pub paying : ℕ → ℕ → (ℕ → ℕ) → ℕ → ℕ
paying user pages charges other = if user == other then pages else charges other

-- what is kept of a user that pays for so many pages; of one that is not there nothing
abbrev pub paid : ℕ → Option Profile → Option Profile
paid pages before = option_map (λ (p : Profile). record p { charge = pages }) before
