-- What a new object forces, said of the objects before it.
use Rattle.std.specs.Prelude.{Bool, true, false, List, [], ◌∷◌, ◌++◌, Option, Some, None, nat_lt, if◌then◌else◌}
use Rattle.s38_rules.specs.declared.object.Body.{Body}
use Rattle.s38_rules.specs.ask.Authority.{is_profile}
use Rattle.s38_rules.specs.store.Forcing.{Ceiling, Forced, Whole}
use Rattle.s38_rules.specs.state.Held.{Held}

abbrev pub is_user_in : Option Body → Bool
is_user_in None = false
is_user_in (Some body) = is_profile body

-- the ceiling where the object's number is above it, and a user whole; nothing where there is no new object
abbrev pub made_forces : Held → Bool → Bool → List Forced
made_forces h false is_user = []
made_forces h true is_user = (if nat_lt h.ceiling h.next then Ceiling ∷ [] else []) ++ (if is_user then Whole h.next ∷ [] else [])
