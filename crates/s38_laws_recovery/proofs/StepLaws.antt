-- What is durable can still be restarted after each step, and so at the end of a history.
use Rattle.std.proofs.Common.{◌≡◌, ◌∙◌, ◌≤◌, ℕ, Bool, true, false, List, [], ◌∷◌, ◌++◌, refl, sym, subst, arith}
use Rattle.s38_base.specs.Limits.{body_limit}
use Rattle.s38_code.specs.declared.entry.Entry.{Entry}
use Rattle.s38_code.specs.declared.event.Event.{Event}
use Rattle.s38_code.specs.declared.reply.Reply.TheVariants.{Done, MustWait, Signal}
use Rattle.s38_code.specs.declared.reply.Reply.{Reply}
use Rattle.s38_durable_state.specs.Durable.{Durable, after_reply, durable, durable_after}
use Rattle.s38_laws_flush.proofs.durable.KeepLaws.{DurableLaws, done_kept, entry_kept, not_done}
use Rattle.s38_laws_flush.proofs.durable.StepLaws.{IsDone, stayed, step_goes}
use Rattle.s38_laws_flush.specs.durable.Kept.{IsKeptOf}
use Rattle.s38_laws_objects.proofs.EventLaws.{effect_beside}
use Rattle.s38_laws_flush.proofs.puts.StepLaws.{begins_on, entry_trail}
use Rattle.s38_laws_flush.specs.puts.Trails.{IsTrailOf}
use Rattle.s38_rules.proofs.StoreLaws.{stored_beside}
use Rattle.s38_rules.specs.step.Effect.{effect_of}
use Rattle.s38_rules.specs.store.Forcing.{must_persist}
use Rattle.s38_rules.specs.state.Held.{Held}
use Rattle.s38_rules.specs.step.Legal.{Leads}
use Rattle.s38_rules.specs.state.State.{State, waits}
use Rattle.s38_rules.specs.step.Step.{awake_verdict, by_verdict, by_waiting, step}
use Rattle.s38_rules.specs.declared.verdict.Verdict.TheVariants.{Permit, Refuse, Wait}
use Rattle.s38_rules.specs.declared.verdict.Verdict.{Verdict}
use Rattle.s38_flush.specs.Stepping.{raised}
use Rattle.s38_laws_recovery.specs.Restartable.{AreKeptLinks, AreReady, IsRestartable}
use Rattle.s38_laws_recovery.specs.Restarting.{CanRestart}
use Rattle.s38_laws_recovery.proofs.KeptAfterLaws.{rising_after}
use Rattle.s38_laws_recovery.proofs.CanLaws.{can_raised}
use Rattle.s38_laws_recovery.proofs.HeldLaws.{counted_now, links_now}
use Rattle.s38_laws_recovery.proofs.WordLaws.{step_links}

-- the limit of a body stays
verdict_limit : (s : State) (p : ℕ) (e : Event) (v : Verdict) → (by_verdict s p e v).state.limit ≡ s.limit
verdict_limit s p e Permit = (stored_beside s p e (effect_of s p e).state).limit ∙ (effect_beside s p e).limit
verdict_limit s p e Wait = refl
verdict_limit s p e (Refuse x) = refl

limit_behind : (s : State) (p : ℕ) (e : Event) → s.limit ≤ body_limit → (step s p e).state.limit ≤ body_limit
unfolding step
limit_behind s p e limit = subst (λ (n : ℕ). n ≤ body_limit) (sym (by (waits s p))) limit
  where
    by : (b : Bool) → (by_waiting b s p e).state.limit ≡ s.limit
    by true = refl
    by false = verdict_limit s p e (awake_verdict s p e)

-- ---- a step that takes effect

pub done_restartable : DurableLaws → (s : State) (p : ℕ) (e : Event) (d : Durable) → IsKeptOf s d → IsTrailOf s d → IsDone (step s p e).reply → IsRestartable s d
    → IsRestartable (step s p e).state (durable_after (must_persist s p e) d (step s p e).state)
done_restartable laws s p e d is trail does ready =
    let t = (step s p e).state in
    let all = must_persist s p e in
    let goes = step_goes s p e is.numbered does in
    let links = step_links s p e ready.ready is.numbered is.right ready.limit does in
    let now = done_kept laws s p e d is does in
    let begun = begins_on laws s p e d is does trail.trailing in
    record {
      limit = limit_behind s p e ready.limit;
      ready = links.ready;
      rising = rising_after all d t goes.numbered.rising;
      links = links_now s t d all is now goes links ready begun;
      counted = counted_now s t d all is now goes links ready begun;
    }

-- the ceiling of the machine does not fall
pub done_ceiling : (s : State) (p : ℕ) (e : Event) (d : Durable) → IsKeptOf s d → IsDone (step s p e).reply → IsRestartable s d → s.held.ceiling ≤ (step s p e).state.held.ceiling
done_ceiling s p e d is does ready = (step_links s p e ready.ready is.numbered is.right ready.limit does).ceiling

-- with the ceiling after the step what was durable can restart as well
pub done_raised : (s : State) (p : ℕ) (e : Event) (d : Durable) → IsKeptOf s d → IsDone (step s p e).reply → IsRestartable s d → CanRestart d → CanRestart (raised d (step s p e).state)
done_raised s p e d is does ready can =
    let goes = step_goes s p e is.numbered does in
    let links = step_links s p e ready.ready is.numbered is.right ready.limit does in
    let more = links.ceiling in
    let same = is.ceiling in
    can_raised d (step s p e).state (omega (arith, more, same)) goes.numbered.low can

-- ---- one that takes none

pub other_restartable : (s : State) (p : ℕ) (e : Event) (d : Durable) → (IsDone (step s p e).reply → ⊥) → IsRestartable s d → IsRestartable (step s p e).state d
other_restartable s p e d not ready =
    let stays = stayed s p e not in
    record {
      limit = limit_behind s p e ready.limit;
      ready = subst AreReady (sym stays.held) ready.ready;
      rising = ready.rising;
      links = subst (λ (h : Held). AreKeptLinks h d) (sym stays.held) ready.links;
      counted = ready.counted;
    }

-- ---- entries, and a history

pub entry_restartable : DurableLaws → (s : State) (e : Entry) (d : Durable) (r : Reply) → (step s e.process e.event).reply ≡ r → IsKeptOf s d → IsTrailOf s d → IsRestartable s d
    → IsRestartable (step s e.process e.event).state (after_reply d s e r)
entry_restartable laws s e d (Done values) same is trail ready = done_restartable laws s e.process e.event d is trail (subst IsDone (sym same) tt) ready
entry_restartable laws s e d (Signal x) same is trail ready = other_restartable s e.process e.event d (not_done (Signal x) (step s e.process e.event).reply same (λ h. h)) ready
entry_restartable laws s e d MustWait same is trail ready = other_restartable s e.process e.event d (not_done MustWait (step s e.process e.event).reply same (λ h. h)) ready

pub history_restartable : DurableLaws → (s : State) (d : Durable) (before history : List Entry) (end : State) → IsKeptOf s d → IsTrailOf s d → IsRestartable s d → Leads s before history end
    → IsRestartable end (durable d s history)
history_restartable laws s d before [] end is trail ready leads = subst (λ (t : State). IsRestartable t d) leads ready
history_restartable laws s d before (e ∷ es) end is trail ready leads =
    history_restartable laws (step s e.process e.event).state (after_reply d s e e.reply) (before ++ e ∷ []) es end
    (entry_kept laws s e d e.reply leads.0.reply is) (entry_trail laws s e d e.reply leads.0.reply is trail) (entry_restartable laws s e d e.reply leads.0.reply is trail ready) leads.1
