use Rattle.std.proofs.Common.{subst, sym}
use Rattle.s38_code.specs.declared.reply.Reply.TheVariants.{MustWait, Signal}
use Rattle.s38_laws_flush.proofs.durable.KeepLaws.{done_kept, entry_kept, history_kept, not_done, other_kept}
use Rattle.s38_laws_flush.proofs.durable.StepLaws.{IsDone}
use Rattle.s38_rules.specs.step.Step.{step}
use Rattle.s38_laws_flush.proofs.durable.laws.what_is_durable_is_kept.Goals as goal

pub returns-clause-done : goal.returns-clause-done
returns-clause-done c = λ s p e values d is does. done_kept (record { follows = c.what_is_durable_follows.ensures; counts = c.room_counts_what_is_durable.ensures; stays = c.what_is_not_forced_stays_durable.ensures }) s p e d is (subst IsDone (sym does) tt)

pub returns-clause-refused : goal.returns-clause-refused
returns-clause-refused c = λ s p e x d is same. other_kept s p e d (not_done (Signal x) (step s p e).reply same (λ h. h)) is

pub returns-clause-waits : goal.returns-clause-waits
returns-clause-waits c = λ s p e d is same. other_kept s p e d (not_done MustWait (step s p e).reply same (λ h. h)) is

pub returns-clause-entries : goal.returns-clause-entries
returns-clause-entries c = λ s before e d entry is. entry_kept (record { follows = c.what_is_durable_follows.ensures; counts = c.room_counts_what_is_durable.ensures; stays = c.what_is_not_forced_stays_durable.ensures }) s e d e.reply entry.reply is

pub returns-clause-histories : goal.returns-clause-histories
returns-clause-histories c = λ s before history end d leads is. history_kept (record { follows = c.what_is_durable_follows.ensures; counts = c.room_counts_what_is_durable.ensures; stays = c.what_is_not_forced_stays_durable.ensures }) s d before history end is leads
