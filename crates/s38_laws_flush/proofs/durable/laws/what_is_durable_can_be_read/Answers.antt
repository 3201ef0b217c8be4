use Rattle.std.proofs.Common.{subst, sym}
use Rattle.s38_laws_flush.proofs.durable.KeepLaws.{history_images, images_after}
use Rattle.s38_laws_flush.proofs.durable.StepLaws.{IsDone}
use Rattle.s38_laws_flush.proofs.durable.laws.what_is_durable_can_be_read.Goals as goal

pub returns-clause-done : goal.returns-clause-done
returns-clause-done c = λ s p e values d is does images readable. images_after (record { follows = c.what_is_durable_follows.ensures; counts = c.room_counts_what_is_durable.ensures; stays = c.what_is_not_forced_stays_durable.ensures }) s p e d is (subst IsDone (sym does) tt) images readable

pub returns-clause-histories : goal.returns-clause-histories
returns-clause-histories c = λ s before history end d leads is images readable. history_images (record { follows = c.what_is_durable_follows.ensures; counts = c.room_counts_what_is_durable.ensures; stays = c.what_is_not_forced_stays_durable.ensures }) s d before history end is images readable leads
