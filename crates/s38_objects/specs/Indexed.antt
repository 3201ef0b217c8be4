-- What is true of every object map: its two maps belong together.
use Rattle.std.specs.Prelude.{◌≡◌, ℕ, ◌<◌, Bool, true, ◌||◌, List, [], ◌∷◌, is_some, nat_le}
use Rattle.std.specs.Option.{option_map}
use Rattle.std.specs.Ordering.{nat_cmp}
use Rattle.std.specs.BTreeMap.{BTreeMap, IsOrdered, get, values}
use Rattle.s38_base.specs.declared.id.Id.{Id}
use Rattle.s38_rules.specs.declared.object.Object.{Object}
use Rattle.s38_rules.specs.state.Held.{found_in, object_in}
use Rattle.s38_objects.specs.declared.name_key.NameKey.{NameKey}
use Rattle.s38_objects.specs.Lawful.{AreApart, number_of}
use Rattle.s38_objects.specs.NameOrder.{key, name_cmp}

-- each object lies at its own number; that number was given, and so was that of the context that it says
abbrev pub AreNumbered : ℕ → List (ℕ × Object) → Type 0
AreNumbered next [] = Unit {0}
AreNumbered next (e ∷ es) = (number_of e.1 ≡ e.0) × (e.0 < next) × (e.1.context.0 < next) × AreNumbered next es

-- a context that is there, or whose number may still be given; one that is gone never is so again
abbrev pub is_open : ℕ → List Object → ℕ → Bool
is_open next os context = nat_le next context || is_some (object_in os context)

-- each name in one of these contexts leads to the number of the object that it names, and to none where there is no
-- such object; of the names in other contexts nothing is said
pub record AreNames (contexts : ℕ → Bool) (names : BTreeMap NameKey ℕ) (os : List Object) : Type 0 where
  pub lead : (context : ℕ) (id : Id) → contexts context ≡ true → get name_cmp names (key context id) ≡ option_map number_of (found_in os context id)

pub record IsIndexed (by_number : BTreeMap ℕ Object) (names : BTreeMap NameKey ℕ) (next : ℕ) : Type 0 where
  pub ordered : IsOrdered nat_cmp by_number
  pub numbered : AreNumbered next by_number.entries
  pub apart : AreApart (is_open next (values by_number)) (values by_number)
  pub named : AreNames (is_open next (values by_number)) names (values by_number)
