-- The places of entries, and which commit block's unit has a change of each.
use Rattle.std.specs.Prelude.{◌≡◌, ℕ, ◌==◌, Bool, false, Option, Some, None}
use Rattle.std.specs.declared.cmp.Ordering.{Ordering}
use Rattle.std.specs.BTreeMap.{BTreeMap, get}
use Rattle.s38_commits.specs.Units.{BlocksRise, UnitMap, changes_entry, unit_of}
use Rattle.s38_commits.specs.declared.place.Place.{Place}
use Rattle.s38_commits.specs.contracts.place.PlaceOrd.TheImpl as place_ord

-- the order of places: by the data space, then by the ordinal
abbrev pub place_cmp : Place → Place → Ordering
place_cmp = (place_ord.ghosts).cmp

abbrev pub place : ℕ → ℕ → Place
place space at = record { space = space; at = at }

abbrev pub is_block : ℕ → Option ℕ → Bool
is_block block None = false
is_block block (Some other) = block == other

-- a block is at the places of the entries that its unit changes, and at no other
pub record AreEntered (units : UnitMap) (places : BTreeMap Place ℕ) : Type 0 where
  pub rising : BlocksRise units
  pub entered : (block space at : ℕ) → is_block block (get place_cmp places (place space at)) ≡ changes_entry (unit_of units block) space at
