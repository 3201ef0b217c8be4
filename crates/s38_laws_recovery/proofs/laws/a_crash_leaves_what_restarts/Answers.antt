use Rattle.s38_laws_recovery.proofs.CrashLaws.{each_above, each_moment, leads_answered, left_numbers, left_prefix}
use Rattle.s38_laws_recovery.proofs.laws.a_crash_leaves_what_restarts.Goals as goal

pub returns-clause-moments : goal.returns-clause-moments
returns-clause-moments c = λ d s entries count is trail ready answered order images.
    each_moment (record { follows = c.what_is_durable_follows.ensures; counts = c.room_counts_what_is_durable.ensures; stays = c.what_is_not_forced_stays_durable.ensures }) entries count s d is trail ready answered order images

pub returns-clause-behind : goal.returns-clause-behind
returns-clause-behind c = λ m d s entries count is trail ready answered order images low left.
    left_prefix (record { follows = c.what_is_durable_follows.ensures; counts = c.room_counts_what_is_durable.ensures; stays = c.what_is_not_forced_stays_durable.ensures }) m d s entries count is trail ready answered order images low left

pub returns-clause-numbers : goal.returns-clause-numbers
returns-clause-numbers c = λ m d s entries count is trail ready answered restarted.
    left_numbers m d s entries count
    (each_above (record { follows = c.what_is_durable_follows.ensures; counts = c.room_counts_what_is_durable.ensures; stays = c.what_is_not_forced_stays_durable.ensures }) entries count s d is trail ready answered) restarted

pub returns-clause-answered : goal.returns-clause-answered
returns-clause-answered c = λ s before history end leads. leads_answered s before history end leads
