-- What is true of every object map.
use Rattle.std.specs.Prelude.{◌≡◌, ℕ, ◌<◌, ◌==◌, Bool, true, ◌||◌, All, List, [], ◌∷◌, map, None}
use Rattle.std.specs.List.Sorted.{IsStrictlyIncreasing}
use Rattle.s38_rules.specs.declared.object.Object.{Object}
use Rattle.s38_rules.specs.state.Held.{Held, found_in, is_there}

-- the number of an object
abbrev pub number_of : Object → ℕ
number_of o = o.number.0

-- no two objects in one of these contexts have one identification
abbrev pub AreApart : (ℕ → Bool) → List Object → Type 0
AreApart contexts [] = Unit {0}
AreApart contexts (o ∷ os) = (contexts o.context.0 ≡ true → found_in os o.context.0 o.id ≡ None) × AreApart contexts os

-- what is true of every object map: the numbers rise and were given, and names are told apart in each context that is
-- there
pub record IsObjectMap (h : Held) : Type 0 where
  pub rising : IsStrictlyIncreasing (map number_of h.objects)
  pub given : All (λ o. number_of o < h.next) h.objects
  pub apart : AreApart (is_there h) h.objects

-- an object may be put into a context that is there, or into none
abbrev pub is_place : Held → ℕ → Bool
is_place h context = (context == 0) || is_there h context

-- and a new one into itself
abbrev pub is_place_of : Held → Object → Bool
is_place_of h o = is_place h o.context.0 || (o.context.0 == o.number.0)
