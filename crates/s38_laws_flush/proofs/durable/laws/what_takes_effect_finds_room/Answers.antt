use Rattle.std.proofs.Common.{subst, sym}
use Rattle.s38_laws_flush.proofs.durable.FindLaws.{finds_room}
use Rattle.s38_laws_flush.proofs.durable.HoldLaws.{forced_low}
use Rattle.s38_laws_flush.proofs.durable.StepLaws.{IsDone}
use Rattle.s38_laws_flush.proofs.durable.laws.what_takes_effect_finds_room.Goals as goal

pub returns-clause-room : goal.returns-clause-room
returns-clause-room c =
    λ s p e values d room m free is does over stands parts headers behind sum.
    finds_room (record { follows = c.what_is_durable_follows.ensures; counts = c.room_counts_what_is_durable.ensures; stays = c.what_is_not_forced_stays_durable.ensures }) s p e d is (subst IsDone (sym does) tt) room over m stands parts headers behind free sum

pub returns-clause-parts : goal.returns-clause-parts
returns-clause-parts c = λ all m d parts. forced_low all m d parts
