use Rattle.std.proofs.Common.{arith, subst, sym}
use Rattle.s38_base.specs.Limits.{body_limit}
use Rattle.s38_code.specs.declared.reply.Reply.TheVariants.{MustWait, Signal}
use Rattle.s38_laws_flush.proofs.durable.KeepLaws.{not_done}
use Rattle.s38_laws_flush.proofs.durable.StepLaws.{IsDone}
use Rattle.s38_laws_images.proofs.openings.RestartLaws.{restarts}
use Rattle.s38_restart.specs.Parts.{all_parts}
use Rattle.s38_rules.specs.step.Step.{step}
use Rattle.s38_laws_recovery.proofs.BeginLaws.{begins_can, begins_restartable}
use Rattle.s38_laws_recovery.proofs.CrashLaws.{can_in}
use Rattle.s38_laws_recovery.proofs.InstallLaws.{installed_can}
use Rattle.s38_laws_recovery.proofs.StepLaws.{done_raised, done_restartable, entry_restartable, history_restartable, other_restartable}
use Rattle.s38_laws_recovery.proofs.laws.what_is_durable_can_restart.Goals as goal

pub returns-clause-installed : goal.returns-clause-installed
returns-clause-installed c = installed_can

pub returns-clause-begins : goal.returns-clause-begins
returns-clause-begins c = λ m h templates jobs room are fault same. begins_restartable m are fault (restarts body_limit (all_parts m) (omega arith) are fault) h templates jobs room same

pub returns-clause-read : goal.returns-clause-read
returns-clause-read c = λ m are fault. begins_can m are fault (restarts body_limit (all_parts m) (omega arith) are fault)

pub returns-clause-done : goal.returns-clause-done
returns-clause-done c = λ s p e values d is trail does ready. done_restartable (record { follows = c.what_is_durable_follows.ensures; counts = c.room_counts_what_is_durable.ensures; stays = c.what_is_not_forced_stays_durable.ensures }) s p e d is trail (subst IsDone (sym does) tt) ready

pub returns-clause-refused : goal.returns-clause-refused
returns-clause-refused c = λ s p e x d same ready. other_restartable s p e d (not_done (Signal x) (step s p e).reply same (λ h. h)) ready

pub returns-clause-waits : goal.returns-clause-waits
returns-clause-waits c = λ s p e d same ready. other_restartable s p e d (not_done MustWait (step s p e).reply same (λ h. h)) ready

pub returns-clause-entries : goal.returns-clause-entries
returns-clause-entries c = λ s before e d entry is trail ready. entry_restartable (record { follows = c.what_is_durable_follows.ensures; counts = c.room_counts_what_is_durable.ensures; stays = c.what_is_not_forced_stays_durable.ensures }) s e d e.reply entry.reply is trail ready

pub returns-clause-histories : goal.returns-clause-histories
returns-clause-histories c = λ s before history end d leads is trail ready. history_restartable (record { follows = c.what_is_durable_follows.ensures; counts = c.room_counts_what_is_durable.ensures; stays = c.what_is_not_forced_stays_durable.ensures }) s d before history end is trail ready leads

pub returns-clause-states : goal.returns-clause-states
returns-clause-states c = λ s d is order images ready. can_in s d is order images ready

pub returns-clause-ceilings : goal.returns-clause-ceilings
returns-clause-ceilings c = λ s p e values d is does ready can. done_raised s p e d is (subst IsDone (sym does) tt) ready can
