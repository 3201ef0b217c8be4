-- How much of a room is left after lines that are put into it.
use Rattle.std.specs.Prelude.{ℕ, ◌-◌, List, [], ◌∷◌, Option, Some, None, nat_le, if◌then◌else◌}
use Rattle.s38_rules.specs.store.Room.{line_size}

-- none, once a line did not fit
abbrev pub room_after_line : Option ℕ → List ℕ → Option ℕ
room_after_line None line = None
room_after_line (Some room) line = if nat_le (line_size line) room then Some (room - line_size line) else None

abbrev pub room_after : Option ℕ → List (List ℕ) → Option ℕ
room_after room [] = room
room_after room (line ∷ lines) = room_after (room_after_line room line) lines
