-- A history as items: its entries, and after them the call that was answered Stopped first, where there is one.
use Rattle.std.specs.Prelude.{◌≡◌, ◌⊎◌, ℕ, Bool, true, false, ◌==◌, List, [], ◌∷◌, ◌++◌, filter, map, Option, Some, None, Result, Ok, Err, if◌then◌else◌}
use Rattle.s38_code.specs.declared.entry.Entry.{Entry}
use Rattle.s38_code.specs.declared.event.Event.{Event}
use Rattle.s38_code.specs.declared.reply.Reply.{Reply}
use Rattle.s38_code.specs.declared.reply.Reply.TheVariants.{MustWait}
use Rattle.s38_code.specs.declared.step.StepFault.{StepFault}
use Rattle.s38_code.specs.declared.step.StepFault.TheVariants as faults
use Rattle.s38_code.specs.History.{entry_after}
use Rattle.s38_turn.specs.declared.item.Item.{Item}
use Rattle.s38_turn.specs.declared.item.Item.TheVariants.{Entered, Stopped}

abbrev pub entered : Entry → Item
entered e = Entered e

abbrev pub stop_of : Option (ℕ × Event) → List Item
stop_of None = []
stop_of (Some s) = Stopped s.0 s.1 ∷ []

-- the entries of a history, and the stopped call after them
abbrev pub items : List Entry → Option (ℕ × Event) → List Item
items history stopped = map entered history ++ stop_of stopped

-- those of a machine
abbrev pub items_of : {M : Type 0} → (M → List Entry) → (M → Option (ℕ × Event)) → M → List Item
items_of history stopped m = items (history m) (stopped m)

abbrev pub is_by : ℕ → Item → Bool
is_by process (Entered e) = e.process == process
is_by process (Stopped p event) = p == process

-- the items of a process, in order
abbrev pub items_by : ℕ → List Item → List Item
items_by process all = filter (is_by process) all

-- the entries alone
abbrev pub entries_in : List Item → List Entry
entries_in [] = []
entries_in (Entered e ∷ all) = e ∷ entries_in all
entries_in (Stopped p event ∷ all) = entries_in all

abbrev pub has_stop : List Item → Bool
has_stop [] = false
has_stop (Entered e ∷ all) = has_stop all
has_stop (Stopped p event ∷ all) = true

-- a list goes on as the other began
abbrev pub Begins : List Item → List Item → Type 0
Begins first all = (rest : List Item) × (all ≡ first ++ rest)

-- what an answer adds to a history: an entry, the call that is stopped first, or nothing
abbrev pub IsAdded : List Item → ℕ → Event → Result Reply StepFault → List Item → Type 0
IsAdded old process event (Ok reply) added = (added ≡ Entered (entry_after (entries_in old) process event reply) ∷ []) ⊎ ((reply ≡ MustWait) × (added ≡ []))
IsAdded old process event (Err faults.Stopped) added = added ≡ (if has_stop old then [] else Stopped process event ∷ [])
IsAdded old process event (Err faults.NoMemory) added = added ≡ []
