-- What a COMMIT puts that takes effect.
use Rattle.std.proofs.Common.{◌≡◌, ◌∙◌, ℕ, ◌+◌, ◌/◌, ◌≤◌, List, [], Some, length, subst, sym}
use Rattle.std.specs.FinMap.{get}
use Rattle.s38_code.specs.declared.entry.Entry.{Entry}
use Rattle.s38_code.specs.declared.event.Event.{Event}
use Rattle.s38_laws_commits.specs.Found.{Commits}
use Rattle.s38_commits.specs.Unit.{CommitUnit}
use Rattle.s38_durable_state.specs.Durable.{Durable, durable_after}
use Rattle.s38_durable_state.specs.Represents.{Represents}
use Rattle.s38_laws_flush.proofs.durable.KeepLaws.{DurableLaws}
use Rattle.s38_laws_flush.proofs.durable.StepLaws.{IsDone}
use Rattle.s38_laws_flush.specs.durable.Kept.{IsKeptOf}
use Rattle.s38_rules.specs.step.Effect.{effect_of}
use Rattle.s38_rules.specs.store.Forcing.{must_persist}
use Rattle.s38_rules.specs.state.Journaling.{journal_for_block}
use Rattle.s38_rules.specs.step.Legal.{IsEntry}
use Rattle.s38_rules.specs.state.PartsAt.{journal_at}
use Rattle.s38_rules.specs.state.State.{State}
use Rattle.s38_rules.specs.step.Step.{step}
use Rattle.s38_flush.specs.Numbers.{numbered}
use Rattle.s38_flush.specs.Stepping.{HaveHeaders, ceiling_changes, object_changes}
use Rattle.s38_vault.specs.Content.{Content}
use Rattle.s38_laws_flush.specs.puts.OnePut.{BodiesAreShort}
use Rattle.s38_laws_flush.specs.puts.Trails.{IsTrailOf}
use Rattle.s38_laws_flush.proofs.puts.ShapeLaws.{CommitsWhole, commit_alone}
use Rattle.s38_laws_flush.proofs.puts.StepLaws.{commit_ceiling, commit_put}

module _ (laws : DurableLaws) (s : State) (before : List Entry) (e : Entry) (unit : CommitUnit) (entry : IsEntry s before e) (commits : Commits s e unit) (n : ℕ) (to : journal_for_block s.held commits.block ≡ Some n) (d : Durable) (is : IsKeptOf s d) (m : Content) where
  does : IsDone (step s e.process e.event).reply
  does = subst IsDone (sym (entry.reply ∙ commits.reply)) tt

  alone : CommitsWhole s.held (effect_of s e.process e.event).state.held (must_persist s e.process e.event) n
  alone =
      subst (λ (v : Event). CommitsWhole s.held (effect_of s e.process v).state.held (must_persist s e.process v) n) (sym commits.event)
      (commit_alone s e.process commits.depth commits.request commits.block n unit commits.changes commits.found to)

  abbrev new : Durable
  new = durable_after (must_persist s e.process e.event) d (step s e.process e.event).state

  pub few_parts : IsTrailOf s d → HaveHeaders d → HaveHeaders new → BodiesAreShort d → BodiesAreShort new → Represents m d
      → length (object_changes (numbered (must_persist s e.process e.event)) (get m) new) ≤ (journal_at (effect_of s e.process e.event).state.held n).unforced / 512 + 3
  few_parts trail headers then_headers short then_short stands = commit_put laws s e.process e.event d is does m trail headers then_headers short then_short stands n alone

  pub no_ceiling : ceiling_changes (numbered (must_persist s e.process e.event)) (get m) new ≡ []
  no_ceiling = commit_ceiling laws s e.process e.event d is does m n alone
