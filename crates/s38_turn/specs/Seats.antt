-- A turn and a seat, as contracts see them.
use Rattle.std.specs.Prelude.{◌≡◌, ℕ, List, ◌++◌, Option, Some}
use Rattle.atomic_table.specs.Seated.{TableId}
use Rattle.atomic_table.specs.declared.shared.Seat as table
use Rattle.s38_turn.specs.declared.item.Item.{Item}
use Rattle.s38_turn.specs.declared.view.ProcessList.{ProcessList}
use Rattle.s38_turn.specs.declared.view.View.{View}
use Rattle.s38_turn.specs.Lists.{longer, only, without}

-- which turn it is, the machine that it was made with, and how many processes it has, from 1 on
pub record TurnView (M : Type 0) : Type 0 where
  pub table : TableId
  pub machine : M
  pub processes : ℕ

-- of which turn a seat is, what it has seen of the history, and the list of each of its processes
pub record SeatView (M : Type 0) : Type 0 where
  pub table : TableId
  pub machine : Option M
  pub seen : List Item
  pub lists : List ProcessList

-- what the table's seat knows
abbrev pub seat_view : {M : Type 0} → table.Seat (Option M) (View M) → SeatView M
seat_view s = record { table = s.table_id; machine = s.me.0.first; seen = s.me.0.seen; lists = s.me.0.lists }

-- the seat is of this turn
abbrev pub IsSeatOf : {M : Type 0} → TurnView M → SeatView M → Type 0
IsSeatOf turn seat = (seat.table ≡ turn.table) × (seat.machine ≡ Some turn.machine)

-- a seat without a process
abbrev pub without_process : {M : Type 0} → ℕ → SeatView M → SeatView M
without_process p seat = record seat { lists = without p seat.lists }

-- a seat of one of its processes alone
abbrev pub only_process : {M : Type 0} → ℕ → SeatView M → SeatView M
only_process p seat = record seat { lists = only p seat.lists }

-- a seat with the processes of both, which has seen what one of them has
abbrev pub gathered : {M : Type 0} → SeatView M → SeatView M → SeatView M
gathered seat other = record seat { seen = longer seat.seen other.seen; lists = seat.lists ++ other.lists }
