-- Which rights are available on an object: those that the used pointer carries, and those that each acting user
-- brings: the rights of everybody and those of its private row, or all eight with all-object authority.
use Rattle.std.specs.Prelude.{ℕ, ◌==◌, Bool, true, false, ◌||◌, List, [], ◌∷◌, Option, Some, None, bit_and, bit_or, if◌then◌else◌}
use Rattle.std.specs.List.{list_any}
use Rattle.bitflags.specs.Sets.{without}
use Rattle.s38_base.specs.declared.exception.Exception.{Exception}
use Rattle.s38_base.specs.declared.exception.Rule.TheVariants.{Missing, NoSpecial}
use Rattle.s38_base.specs.declared.rights.Rights.{Rights}
use Rattle.s38_base.specs.Exceptions as exceptions
use Rattle.s38_base.specs.RightNames as rights
use Rattle.s38_rules.specs.declared.object.Body.{Body}
use Rattle.s38_rules.specs.declared.object.Body.TheVariants as bodies
use Rattle.s38_rules.specs.declared.object.Object.{Object}
use Rattle.s38_rules.specs.state.Headers.{public_in, rights_in_row, special_in}
use Rattle.s38_rules.specs.state.Held.{Held, object, owner_in}

-- all the needed rights are among those that are there
abbrev pub has_rights : ℕ → ℕ → Bool
has_rights needed there = bit_and there needed == needed

-- ---- special authorities

-- a user's profile gives it this special authority
abbrev pub has_special : Held → ℕ → ℕ → Bool
has_special h special user = has_rights special (special_in (object h user))

-- some of the users has it
abbrev pub is_special : Held → List ℕ → ℕ → Bool
is_special h users special = list_any (has_special h special) users

-- an instruction that needs a special authority is refused where no acting user has it
unfoldable pub lacks_special : Held → List ℕ → ℕ → Option Exception
lacks_special h users special =
    if (special == rights.no_rights) || is_special h users special then None
    else Some (record { id = exceptions.special_required; operand = 0; rule = NoSpecial (record { 0 = special }) })

-- ---- rights

abbrev pub is_profile : Body → Bool
is_profile (bodies.Profile special limit) = true
is_profile _ = false

-- a row counts only while its user is there
abbrev pub rights_that_count : Option Object → ℕ → ℕ
rights_that_count None row = rights.no_rights
rights_that_count (Some o) row = if is_profile o.body then row else rights.no_rights

-- the rights of a user by its row on the object of a number
abbrev pub row_on : Held → ℕ → ℕ → ℕ
row_on h n user = rights_that_count (object h user) (rights_in_row (object h n) user)

-- what one user brings to the object of a number
unfoldable pub source_by : Held → ℕ → ℕ → ℕ
source_by h n user =
    if has_special h rights.allobj user then rights.all_rights
    else bit_or (public_in (object h n)) (row_on h n user)

abbrev pub sources_by : Held → ℕ → List ℕ → ℕ
sources_by h n [] = rights.no_rights
sources_by h n (user ∷ users) = bit_or (source_by h n user) (sources_by h n users)

abbrev pub sources_on : Held → ℕ → List ℕ → Option Object → ℕ
sources_on h n users None = rights.no_rights
sources_on h n users (Some o) = sources_by h n users

-- the rights that are available to these users on the object of a number, with what the used pointer carries
unfoldable pub available : Held → List ℕ → ℕ → ℕ → ℕ
available h users n carried = bit_or carried (sources_on h n users (object h n))

-- the needed rights that are missing
abbrev pub missing_in : ℕ → ℕ → Option Rights
missing_in needed there = if has_rights needed there then None else Some (record { 0 = without 8 needed there })

abbrev pub rights_failure : ℕ → Option Rights → Option Exception
rights_failure operand None = None
rights_failure operand (Some r) = Some (record { id = exceptions.unauthorized; operand = operand; rule = Missing r })

-- the exception that says which needed rights are missing
abbrev pub missing : ℕ → ℕ → ℕ → Option Exception
missing operand needed there = rights_failure operand (missing_in needed there)

-- ---- ownership

-- a user owns the object of a number, or has all-object authority
abbrev pub governs : Held → ℕ → ℕ → Bool
governs h n user = (user == owner_in (object h n)) || has_special h rights.allobj user

-- one of the users does
unfoldable pub is_governed : Held → ℕ → List ℕ → Bool
is_governed h n users = list_any (governs h n) users
