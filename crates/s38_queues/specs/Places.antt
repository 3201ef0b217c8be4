-- The places of messages in the order of their keys: the place of a message is its key and the number of its
-- arrival.
use Rattle.std.specs.Prelude.{◌≡◌, ℕ, ◌<◌, ◌≤◌, Bool, true, false, not, ◌||◌, List, length, Option, Some, None, nat_le}
use Rattle.std.specs.BTreeMap as tree
use Rattle.std.specs.BTreeMap.{BTreeMap}
use Rattle.std.specs.BTreeSet as sorted
use Rattle.std.specs.BTreeSet.{BTreeSet}
use Rattle.std.specs.Cmp.Lexicographic.{slice_cmp}
use Rattle.std.specs.List.{remove}
use Rattle.std.specs.Ordering.{is_gt, nat_cmp}
use Rattle.std.specs.declared.cmp.Ordering.{Ordering}
use Rattle.s38_base.specs.Relations.{holds, is_equal}
use Rattle.s38_base.specs.declared.words.Relation.{Relation}
use Rattle.s38_queues.specs.MessageQueue.{first_by_key, is_any, key_is_in_relation, longest_key}
use Rattle.s38_queues.specs.declared.message.Message.{Message}
use Rattle.s38_queues.specs.declared.place.Place.{Place}
use Rattle.s38_queues.specs.contracts.place.PlaceOrd.TheImpl as place_ord

-- the order of places: by the key, and where that is the same by the arrival
abbrev pub place_cmp : Place → Place → Ordering
place_cmp = (place_ord.ghosts).cmp

abbrev pub has : BTreeSet Place → Place → Bool
has places p = sorted.contains place_cmp places p

-- whether a relation holds between the key of a place and another one
abbrev pub place_fits : Relation → List ℕ → Place → Bool
place_fits relation key p = holds relation (slice_cmp nat_cmp p.key key)

-- whether a place does not come before another one
abbrev pub is_from : Place → Place → Bool
is_from start p = not (is_gt (place_cmp start p))

-- the first of those places that pass a test
abbrev pub IsFirstOf : (Place → Bool) → BTreeSet Place → Option Place → Type 0
IsFirstOf test places None = (q : Place) → has places q ≡ true → test q ≡ false
IsFirstOf test places (Some p) = (has places p ≡ true) × (test p ≡ true) × ((q : Place) → has places q ≡ true → test q ≡ true → is_from p q ≡ true)

-- each place is of an arrival before the next
abbrev pub AreBefore : ℕ → BTreeSet Place → Type 0
AreBefore next places = (q : Place) → has places q ≡ true → q.arrival < next

-- any key, or one that is not too long
abbrev pub is_short : Relation → List ℕ → Bool
is_short relation key = is_any relation || nat_le (length key) longest_key

-- whether a message is there and has a key
abbrev pub is_of_key : List ℕ → Option Message → Bool
is_of_key key None = false
is_of_key key (Some m) = is_equal (slice_cmp nat_cmp m.key key)

-- the messages, by their arrivals, have these places and no other, and the next will arrive after them
pub record ArePlaced (next : ℕ) (messages : BTreeMap ℕ Message) (places : BTreeSet Place) : Type 0 where
  pub placed : (p : Place) → has places p ≡ is_of_key p.key (tree.get nat_cmp messages p.arrival)
  pub behind : (arrival : ℕ) → next ≤ arrival → tree.get nat_cmp messages arrival ≡ None
  pub ordered : tree.IsOrdered nat_cmp messages

-- ---- the messages in order of arrival

-- the place of the message that is first by key, among those that fit
abbrev pub found_by_key : Relation → List ℕ → List Message → Option ℕ
found_by_key relation key ms = first_by_key (key_is_in_relation relation key) ms

-- the messages without the one at a place
abbrev pub without_at : List Message → Option ℕ → List Message
without_at ms None = ms
without_at ms (Some at) = remove ms at
