-- How the entries are kept: in leaves, one after another.
use Rattle.std.specs.Prelude.{◌≡◌, ℕ, ◌<◌, ◌≤◌, Bool, false, Option, None, Some, List, [], ◌∷◌, ◌++◌, drop, find, is_some, length, not, slice_index_or, suc, take}
use Rattle.std.specs.List.{AllByRecursion, position_or_len}
use Rattle.s38_base.specs.declared.words.Relation.{Relation}
use Rattle.s38_base.specs.declared.words.Relation.TheVariants.{Eq, Lo}
use Rattle.s38_indexes.specs.Entries.{AreShort, IndexEntry, IsCounted, IsRising, index_with_entry, is_in_relation, least}

-- how many entries a leaf has at most
abbrev pub most : ℕ
most = 64

-- the entries of a leaf rise, and are not too many
pub record IsLeaf (entries : List IndexEntry) : Type 0 where
  pub rising : IsRising entries
  pub few : length entries ≤ most

-- the entries of all leaves
abbrev pub joined : List (List IndexEntry) → List IndexEntry
joined [] = []
joined (leaf ∷ leaves) = leaf ++ joined leaves

-- no leaf is without an entry
abbrev pub NoneEmpty : List (List IndexEntry) → Type 0
NoneEmpty leaves = AllByRecursion (λ leaf. 1 ≤ length leaf) leaves

-- what an index keeps of its leaves
pub record IsKept (longest count size : ℕ) (leaves : List (List IndexEntry)) : Type 0 where
  pub counted : IsCounted count size (joined leaves)
  pub short : AreShort longest (joined leaves)
  pub none_empty : NoneEmpty leaves

-- whether an entry is not in a relation to a key
abbrev pub misses : Relation → IndexEntry → IndexEntry → Bool
misses relation key entry = not (is_in_relation relation key entry)

-- how many entries are in a relation to a key, up to the first that is not
abbrev pub front : Relation → IndexEntry → List IndexEntry → ℕ
front relation key entries = position_or_len (misses relation key) entries

-- the least entry that is not in a relation to a key
abbrev pub least_past : Relation → IndexEntry → List IndexEntry → Option IndexEntry
least_past relation key entries = find (misses relation key) entries

-- whether the entry, if there is one, equals a key
abbrev pub is_equal_to : IndexEntry → Option IndexEntry → Bool
is_equal_to key None = false
is_equal_to key (Some entry) = is_in_relation Eq key entry

-- whether a leaf has an entry that is in a relation to a key
abbrev pub has : Relation → IndexEntry → List IndexEntry → Bool
has relation key leaf = is_some (least relation key leaf)

-- whether a leaf has an entry that is not in a relation to a key
abbrev pub passes : Relation → IndexEntry → List IndexEntry → Bool
passes relation key leaf = is_some (least_past relation key leaf)

-- whether a leaf has an entry that does not come before a key
abbrev pub reaches : IndexEntry → List IndexEntry → Bool
reaches key leaf = passes Lo key leaf

-- the first leaf that has an entry that does not come before a key, or how many leaves there are
abbrev pub first_reaching : IndexEntry → List (List IndexEntry) → ℕ
first_reaching key leaves = position_or_len (reaches key) leaves

-- the leaves with another one in the place of one
abbrev pub with_leaf : List (List IndexEntry) → ℕ → List IndexEntry → List (List IndexEntry)
with_leaf leaves at leaf = take at leaves ++ leaf ∷ drop (suc at) leaves

-- an entry that is put into this leaf is in its place among all
pub record IsPlaceFor (key : IndexEntry) (leaves : List (List IndexEntry)) (at : ℕ) : Type 0 where
  pub inside : at < length leaves
  pub joins :
      joined (with_leaf leaves at (index_with_entry key (slice_index_or leaves at []))) ≡ index_with_entry key (joined leaves)

-- a leaf has become two, which both have room
pub record IsSplit (old new : List (List IndexEntry)) (at : ℕ) : Type 0 where
  pub lower : List IndexEntry
  pub upper : List IndexEntry
  pub whole : lower ++ upper ≡ slice_index_or old at []
  pub leaves : new ≡ take at old ++ lower ∷ upper ∷ drop (suc at) old
  pub lower_room : length lower < most
  pub upper_room : length upper < most
