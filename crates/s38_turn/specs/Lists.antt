-- The lists of a seat: its processes, each with its items of the history.
use Rattle.std.specs.Prelude.{◌≡◌, ℕ, zero, suc, ◌<◌, ◌≤◌, ◌==◌, Bool, true, false, not, nat_lt, List, [], ◌∷◌, ◌++◌, filter, length, map, if◌then◌else◌}
use Rattle.s38_turn.specs.declared.item.Item.{Item}
use Rattle.s38_turn.specs.declared.view.ProcessList.{ProcessList}
use Rattle.s38_turn.specs.Items.{items_by}

-- whether there is a list of the process
abbrev pub has : ℕ → List ProcessList → Bool
has p [] = false
has p (l ∷ ls) = if l.process == p then true else has p ls

-- its items there
abbrev pub list_of : ℕ → List ProcessList → List Item
list_of p [] = []
list_of p (l ∷ ls) = if l.process == p then l.items else list_of p ls

-- there is a list of each process from 1 to n
abbrev pub HasAll : ℕ → List ProcessList → Type 0
HasAll n ls = (p : ℕ) → 0 < p → p ≤ n → has p ls ≡ true

-- the list of a process with these items
abbrev pub list_with : ℕ → List Item → ProcessList
list_with p items = record { process = p; items = items }

-- the empty lists of the processes from 1 to n
abbrev pub empty_lists : ℕ → List ProcessList
empty_lists zero = []
empty_lists (suc n) = list_with (suc n) [] ∷ empty_lists n

-- the lists of the same processes in a history
abbrev pub lists_in : List Item → List ProcessList → List ProcessList
lists_in all ls = map (λ l. list_with l.process (items_by l.process all)) ls

-- the lists, with items added to that of one process
abbrev pub lengthened : ℕ → List Item → List ProcessList → List ProcessList
lengthened p added ls = map (λ l. list_with l.process (l.items ++ (if l.process == p then added else []))) ls

-- the lists of the other processes
abbrev pub without : ℕ → List ProcessList → List ProcessList
without p ls = filter (λ l. not (l.process == p)) ls

-- the list of one process alone
abbrev pub only : ℕ → List ProcessList → List ProcessList
only p ls = list_with p (list_of p ls) ∷ []

-- the longer of two beginnings
abbrev pub longer : List Item → List Item → List Item
longer xs ys = if nat_lt (length xs) (length ys) then ys else xs
