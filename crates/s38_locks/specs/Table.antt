-- The locks of all objects: each object that has locks, in rising order of its number, with its locks.
use Rattle.std.specs.Prelude.{ℕ, List, [], ◌∷◌, filter, map}
use Rattle.std.specs.Option.{unwrap_or}
use Rattle.std.specs.Ordering.{nat_cmp}
use Rattle.std.specs.Map.{lookup, remove_entry}
use Rattle.std.specs.BTreeMap.{insert_entry, is_at}
use Rattle.s38_locks.specs.Locks.{Lock, is_locked, without_process}

abbrev pub Table : Type 0
Table = List (ℕ × List Lock)

-- the locks of an object
abbrev pub locks_of : Table → ℕ → List Lock
locks_of table object = unwrap_or (lookup (is_at (nat_cmp object)) table) []

-- the table with these locks of an object
abbrev pub with_locks : Table → ℕ → List Lock → Table
with_locks table object [] = remove_entry (is_at (nat_cmp object)) table
with_locks table object (lock ∷ locks) = insert_entry nat_cmp table object (lock ∷ locks)

-- the table without the locks of a process
abbrev pub released : ℕ → Table → Table
released process table = filter (λ e. is_locked e.1) (map (λ e. (e.0, without_process process e.1)) table)
