-- A history is a list of entries; each process has its own part of it.
use Rattle.std.specs.Prelude.{◌≡◌, ◌⊎◌, ℕ, Bool, ◌==◌, List, [], ◌∷◌, ◌++◌, Option, Some, None, filter, length}
use Rattle.s38_code.specs.declared.entry.Entry.{Entry}
use Rattle.s38_code.specs.declared.event.Event.{Event}
use Rattle.s38_code.specs.declared.reply.Reply.{Reply}
use Rattle.s38_code.specs.declared.reply.Reply.TheVariants.{MustWait}

abbrev pub is_of_process : ℕ → Entry → Bool
is_of_process process e = e.process == process

-- the entries of a process, in order
abbrev pub entries_of : ℕ → List Entry → List Entry
entries_of process history = filter (is_of_process process) history

-- how many there are: the number of its next entry, from 0 on
abbrev pub entry_count : ℕ → List Entry → ℕ
entry_count process history = length (entries_of process history)

-- the entry by which a history goes on
abbrev pub entry_after : List Entry → ℕ → Event → Reply → Entry
entry_after history process event reply = record { process = process; seq = entry_count process history; event = event; reply = reply }

-- new is old with the entry of this answer after it; a process that waits already gets no further entry
abbrev pub IsAnswered : ℕ → Event → Reply → List Entry → List Entry → Type 0
IsAnswered process event reply old new =
    (new ≡ old ++ entry_after old process event reply ∷ []) ⊎ ((reply ≡ MustWait) × (new ≡ old))

-- the first stopped call stays
abbrev pub first_stop : Option (ℕ × Event) → ℕ → Event → Option (ℕ × Event)
first_stop (Some s) process event = Some s
first_stop None process event = Some (process, event)
