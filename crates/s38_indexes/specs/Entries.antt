-- An index is how long an entry may be, and its entries: byte strings in strictly rising order.
use Rattle.std.specs.Prelude.{◌≡◌, ℕ, ◌+◌, ◌≤◌, Bool, true, false, not, Option, List, [], ◌∷◌, length, sum_by, find, reverse, if◌then◌else◌, is_some}
use Rattle.std.specs.declared.cmp.Ordering.{Ordering}
use Rattle.std.specs.declared.cmp.Ordering.TheVariants.{Less}
use Rattle.std.specs.Cmp.Lexicographic.{slice_cmp}
use Rattle.std.specs.List.{AllByRecursion, position_or_len}
use Rattle.std.specs.Ordering.{nat_cmp}
use Rattle.s38_base.specs.Relations.{holds}
use Rattle.s38_base.specs.declared.words.Relation.{Relation}
use Rattle.s38_base.specs.declared.words.Relation.TheVariants.{Eq, Lo, Nh, Last}

abbrev pub IndexEntry : Type 0
IndexEntry = List ℕ

pub record EntryIndex : Type 0 where
  pub longest : ℕ
  pub entries : List IndexEntry

-- the order of an entry and a key: byte by byte, and then by length
abbrev pub order : IndexEntry → IndexEntry → Ordering
order entry key = slice_cmp nat_cmp entry key

-- an entry comes before each of these
abbrev pub IsBelow : IndexEntry → List IndexEntry → Type 0
IsBelow entry entries = AllByRecursion (λ other. order entry other ≡ Less) entries

-- each entry comes before all that follow it
abbrev pub IsRising : List IndexEntry → Type 0
IsRising [] = Unit {0}
IsRising (entry ∷ entries) = IsBelow entry entries × IsRising entries

-- no entry has more than so many bytes
abbrev pub AreShort : ℕ → List IndexEntry → Type 0
AreShort longest entries = AllByRecursion (λ entry. length entry ≤ longest) entries

-- whether an entry is in a relation to a key
abbrev pub is_in_relation : Relation → IndexEntry → IndexEntry → Bool
is_in_relation relation key entry = holds relation (order entry key)

abbrev pub least : Relation → IndexEntry → List IndexEntry → Option IndexEntry
least relation key entries = find (is_in_relation relation key) entries

abbrev pub greatest : Relation → IndexEntry → List IndexEntry → Option IndexEntry
greatest relation key entries = find (is_in_relation relation key) (reverse entries)

-- LO, NH and LAST ask for the greatest entry that fits, the other relations for the least
abbrev pub asks_for_greatest : Relation → Bool
asks_for_greatest Lo = true
asks_for_greatest Nh = true
asks_for_greatest Last = true
asks_for_greatest other = false

-- the entry that a search finds
abbrev pub entry_found : Relation → IndexEntry → List IndexEntry → Option IndexEntry
entry_found relation key entries =
    if asks_for_greatest relation then greatest relation key entries else least relation key entries

abbrev pub has_entry : IndexEntry → List IndexEntry → Bool
has_entry key entries = is_some (least Eq key entries)

-- how many entries come before a key, up to the first that does not
abbrev pub place_of_key : IndexEntry → List IndexEntry → ℕ
place_of_key key entries = position_or_len (λ entry. not (is_in_relation Lo key entry)) entries

-- one more entry, in its place
abbrev pub index_with_entry : IndexEntry → List IndexEntry → List IndexEntry
index_with_entry key [] = key ∷ []
index_with_entry key (entry ∷ entries) =
    if is_in_relation Lo key entry then entry ∷ index_with_entry key entries else key ∷ entry ∷ entries

-- one entry less
abbrev pub without_entry : IndexEntry → List IndexEntry → List IndexEntry
without_entry key [] = []
without_entry key (entry ∷ entries) =
    if is_in_relation Eq key entry then entries else entry ∷ without_entry key entries

-- the bytes of an entry in the image of an index: one for its length, and the entry
abbrev pub entry_size : IndexEntry → ℕ
entry_size entry = 1 + length entry

-- the bytes of the image: five for the index itself, and its entries
abbrev pub index_image_size : List IndexEntry → ℕ
index_image_size entries = 5 + sum_by entry_size entries

-- the largest image
abbrev pub largest : ℕ
largest = 16777216

-- what an index keeps beside its entries: how many there are, and the bytes of its image
pub record IsCounted (count size : ℕ) (entries : List IndexEntry) : Type 0 where
  pub rising : IsRising entries
  pub counted : count ≡ length entries
  pub sized : size ≡ index_image_size entries
  pub within : size ≤ largest
