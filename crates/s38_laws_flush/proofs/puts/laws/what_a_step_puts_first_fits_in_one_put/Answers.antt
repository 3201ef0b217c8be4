use Rattle.std.proofs.Common.{subst, sym}
use Rattle.s38_laws_flush.proofs.durable.StepLaws.{IsDone}
use Rattle.s38_laws_flush.proofs.puts.StepLaws.{done_put, images_short, short_on}
use Rattle.s38_laws_flush.proofs.puts.laws.what_a_step_puts_first_fits_in_one_put.Goals as goal

pub returns-clause-done : goal.returns-clause-done
returns-clause-done c =
    λ s p e values d m is trail does headers then_headers short then_short stands.
    done_put (record { follows = c.what_is_durable_follows.ensures; counts = c.room_counts_what_is_durable.ensures; stays = c.what_is_not_forced_stays_durable.ensures }) s p e d is (subst IsDone (sym does) tt) m trail headers then_headers short then_short stands

pub returns-clause-short : goal.returns-clause-short
returns-clause-short c = images_short

pub returns-clause-short_after : goal.returns-clause-short_after
returns-clause-short_after c =
    λ s p e values d is does hold short.
    short_on (record { follows = c.what_is_durable_follows.ensures; counts = c.room_counts_what_is_durable.ensures; stays = c.what_is_not_forced_stays_durable.ensures }) s p e d is (subst IsDone (sym does) tt) hold short
