-- Which keys are there, how changes bring and take keys, and which key is next.
use Rattle.std.specs.Prelude.{◌≡◌, ◌≤◌, ◌&&◌, ℕ, Bool, true, not, Option, Some, None, List, [], ◌∷◌, find, is_none, is_some, map, sum_by, if◌then◌else◌}
use Rattle.std.specs.FinMap.{FinMap, contains_key, entries, from_sorted, insert, keys, remove}
use Rattle.std.specs.Ordering.{is_lt}
use Rattle.s38_base.specs.declared.page.Change.{Change}
use Rattle.s38_base.specs.declared.page.Key.{Key}
use Rattle.s38_base.specs.declared.page.Page.{Page}
use Rattle.s38_vault.specs.Keys.{key_cmp}

-- a set of keys: a map with nothing at each of them
abbrev pub Keys : Type 0
Keys = FinMap key_cmp (Unit {0})

unfoldable pub keys_of : {V : Type 0} → FinMap key_cmp V → Keys
keys_of values = from_sorted (map (λ entry. (entry.0, tt)) (entries values))

-- a key is there, or is not
abbrev pub with_key : Keys → Key → Option Page → Keys
with_key keys key (Some page) = insert keys key tt
with_key keys key None = remove keys key

-- all changes are made
abbrev pub changed_keys : Keys → List Change → Keys
changed_keys keys [] = keys
changed_keys keys (change ∷ changes) = changed_keys (with_key keys change.key change.page) changes

-- a change brings a key that was not there
abbrev pub is_new : Keys → Change → Bool
is_new keys change = is_some change.page && not (contains_key keys change.key)

-- a change takes away a key that was there
abbrev pub is_gone : Keys → Change → Bool
is_gone keys change = is_none change.page && contains_key keys change.key

abbrev pub new_keys : Keys → List Change → ℕ
new_keys keys changes = sum_by (λ change. if is_new keys change then 1 else 0) changes

abbrev pub gone_keys : Keys → List Change → ℕ
gone_keys keys changes = sum_by (λ change. if is_gone keys change then 1 else 0) changes

-- a key comes after another, or after none
abbrev pub is_after : Option Key → Key → Bool
is_after None key = true
is_after (Some last) key = is_lt (key_cmp last key)

-- the least of the keys, which rise, after one
abbrev pub next_among : List Key → Option Key → Option Key
next_among rising after = find (is_after after) rising

abbrev pub next_key : Keys → Option Key → Option Key
next_key there after = next_among (keys there) after

-- no key is of object 0
abbrev pub NameObjects : Keys → Type 0
NameObjects keys = (key : Key) → contains_key keys key ≡ true → 1 ≤ key.object
