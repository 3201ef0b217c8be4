use Rattle.s38_laws_flush.proofs.puts.CommitLaws.{few_parts, no_ceiling}
use Rattle.s38_laws_flush.proofs.puts.laws.a_commit_puts_few_parts.Goals as goal

pub returns-clause-few : goal.returns-clause-few
returns-clause-few c = λ s before e unit n d m entry commits to is trail headers then_headers short then_short stands.
    few_parts (record { follows = c.what_is_durable_follows.ensures; counts = c.room_counts_what_is_durable.ensures; stays = c.what_is_not_forced_stays_durable.ensures }) s before e unit entry commits n to d is m trail headers then_headers short then_short stands

pub returns-clause-ceiling : goal.returns-clause-ceiling
returns-clause-ceiling c = λ s before e unit n d m entry commits to is.
    no_ceiling (record { follows = c.what_is_durable_follows.ensures; counts = c.room_counts_what_is_durable.ensures; stays = c.what_is_not_forced_stays_durable.ensures }) s before e unit entry commits n to d is m
