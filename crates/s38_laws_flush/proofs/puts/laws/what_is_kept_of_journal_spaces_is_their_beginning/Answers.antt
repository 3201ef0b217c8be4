use Rattle.std.proofs.Common.{subst, sym}
use Rattle.s38_code.specs.declared.reply.Reply.TheVariants.{MustWait, Signal}
use Rattle.s38_laws_flush.proofs.durable.KeepLaws.{not_done}
use Rattle.s38_laws_flush.proofs.durable.StepLaws.{IsDone}
use Rattle.s38_rules.specs.step.Step.{step}
use Rattle.s38_laws_flush.proofs.puts.BeginLaws.{begins_trail}
use Rattle.s38_laws_flush.proofs.puts.StepLaws.{begins_on, done_trail, entry_trail, history_trail, other_trail}
use Rattle.s38_laws_flush.proofs.puts.laws.what_is_kept_of_journal_spaces_is_their_beginning.Goals as goal

pub returns-clause-begins : goal.returns-clause-begins
returns-clause-begins c = λ m h templates jobs room are fault of. begins_trail m h are fault of templates jobs room

pub returns-clause-done : goal.returns-clause-done
returns-clause-done c = λ s p e values d is trail does. done_trail (record { follows = c.what_is_durable_follows.ensures; counts = c.room_counts_what_is_durable.ensures; stays = c.what_is_not_forced_stays_durable.ensures }) s p e d is (subst IsDone (sym does) tt) trail

pub returns-clause-begun : goal.returns-clause-begun
returns-clause-begun c = λ s p e values d is trail does. begins_on (record { follows = c.what_is_durable_follows.ensures; counts = c.room_counts_what_is_durable.ensures; stays = c.what_is_not_forced_stays_durable.ensures }) s p e d is (subst IsDone (sym does) tt) trail.trailing

pub returns-clause-refused : goal.returns-clause-refused
returns-clause-refused c = λ s p e x d trail same. other_trail s p e d (not_done (Signal x) (step s p e).reply same (λ h. h)) trail

pub returns-clause-waits : goal.returns-clause-waits
returns-clause-waits c = λ s p e d trail same. other_trail s p e d (not_done MustWait (step s p e).reply same (λ h. h)) trail

pub returns-clause-entries : goal.returns-clause-entries
returns-clause-entries c = λ s before e d entry is trail. entry_trail (record { follows = c.what_is_durable_follows.ensures; counts = c.room_counts_what_is_durable.ensures; stays = c.what_is_not_forced_stays_durable.ensures }) s e d e.reply entry.reply is trail

pub returns-clause-histories : goal.returns-clause-histories
returns-clause-histories c = λ s before history end d leads is trail. history_trail (record { follows = c.what_is_durable_follows.ensures; counts = c.room_counts_what_is_durable.ensures; stays = c.what_is_not_forced_stays_durable.ensures }) s d before history end is trail leads
