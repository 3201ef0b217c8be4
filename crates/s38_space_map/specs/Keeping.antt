-- The room of a store as the code holds it.
use Rattle.std.specs.Prelude.{ℕ, Option, None, Some}
use Rattle.s38_rules.specs.store.Room.{Room}

-- the room, and how many extents more take no memory
pub record RoomHeld : Type 0 where
  pub room : Room
  pub spare : ℕ

-- the room, where there is a store
abbrev pub room_in : Option RoomHeld → Option Room
room_in None = None
room_in (Some held) = Some held.room
