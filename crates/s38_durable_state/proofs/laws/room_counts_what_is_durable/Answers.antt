use Rattle.s38_durable_state.proofs.RoomLaws.{room_counts}
use Rattle.s38_durable_state.proofs.laws.room_counts_what_is_durable.Goals as goal

pub returns : goal.returns
returns c = room_counts
