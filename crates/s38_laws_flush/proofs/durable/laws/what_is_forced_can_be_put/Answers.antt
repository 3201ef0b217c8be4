use Rattle.std.proofs.Common.{subst, sym}
use Rattle.s38_laws_flush.proofs.durable.KeepLaws.{all_due, all_settled, all_storable, forced_low, forced_numbers, goes_before, numbered_due, numbered_same}
use Rattle.s38_laws_flush.proofs.durable.NumberLaws.{numbers_numbered}
use Rattle.s38_laws_flush.proofs.durable.StepLaws.{IsDone}
use Rattle.s38_rules.specs.store.Forcing.{must_persist}
use Rattle.s38_laws_flush.proofs.durable.laws.what_is_forced_can_be_put.Goals as goal

pub returns-clause-precedes : goal.returns-clause-precedes
returns-clause-precedes c =
    λ s p e values d m is does images stands begins.
    goes_before (record { follows = c.what_is_durable_follows.ensures; counts = c.room_counts_what_is_durable.ensures; stays = c.what_is_not_forced_stays_durable.ensures }) s p e d is (subst IsDone (sym does) tt) m images stands begins

pub returns-clause-due : goal.returns-clause-due
returns-clause-due c =
    λ s p e values d is does.
    all_due (record { follows = c.what_is_durable_follows.ensures; counts = c.room_counts_what_is_durable.ensures; stays = c.what_is_not_forced_stays_durable.ensures }) s p e d is (subst IsDone (sym does) tt)

pub returns-clause-due_numbered : goal.returns-clause-due_numbered
returns-clause-due_numbered c =
    λ s p e values d is does.
    numbered_due (record { follows = c.what_is_durable_follows.ensures; counts = c.room_counts_what_is_durable.ensures; stays = c.what_is_not_forced_stays_durable.ensures }) s p e d is (subst IsDone (sym does) tt)

pub returns-clause-numbers : goal.returns-clause-numbers
returns-clause-numbers c =
    λ s p e values d is does.
    numbers_numbered (must_persist s p e) (forced_low (record { follows = c.what_is_durable_follows.ensures; counts = c.room_counts_what_is_durable.ensures; stays = c.what_is_not_forced_stays_durable.ensures }) s p e d is (subst IsDone (sym does) tt))

pub returns-clause-operands : goal.returns-clause-operands
returns-clause-operands c =
    λ s p e values d is does has. forced_numbers (record { follows = c.what_is_durable_follows.ensures; counts = c.room_counts_what_is_durable.ensures; stays = c.what_is_not_forced_stays_durable.ensures }) s p e d is (subst IsDone (sym does) tt) has

pub returns-clause-same : goal.returns-clause-same
returns-clause-same c =
    λ s p e values d is does.
    numbered_same (record { follows = c.what_is_durable_follows.ensures; counts = c.room_counts_what_is_durable.ensures; stays = c.what_is_not_forced_stays_durable.ensures }) s p e d is (subst IsDone (sym does) tt)

pub returns-clause-storable : goal.returns-clause-storable
returns-clause-storable c =
    λ s p e values d is does.
    all_storable (record { follows = c.what_is_durable_follows.ensures; counts = c.room_counts_what_is_durable.ensures; stays = c.what_is_not_forced_stays_durable.ensures }) s p e d is (subst IsDone (sym does) tt)

pub returns-clause-settles : goal.returns-clause-settles
returns-clause-settles c =
    λ s p e values d is does.
    all_settled (record { follows = c.what_is_durable_follows.ensures; counts = c.room_counts_what_is_durable.ensures; stays = c.what_is_not_forced_stays_durable.ensures }) s p e d is (subst IsDone (sym does) tt)
