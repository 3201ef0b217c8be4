-- What is durable can restart at each moment of a run, and so can what a crash leaves of it.
use Rattle.std.proofs.Common.{◌≡◌, ◌≤◌, ◌+◌, ℕ, zero, suc, inl, inr, List, [], ◌∷◌, ◌++◌, refl, sym, ap, subst, take, arith}
use Rattle.s38_code.specs.declared.entry.Entry.{Entry}
use Rattle.s38_code.specs.declared.reply.Reply.TheVariants.{Done, MustWait, Signal}
use Rattle.s38_code.specs.declared.reply.Reply.{Reply}
use Rattle.s38_durable_state.specs.Durable.{Durable, after_reply, durable}
use Rattle.s38_laws_flush.proofs.durable.KeepLaws.{DurableLaws, entry_kept, not_done}
use Rattle.s38_laws_flush.proofs.durable.StepLaws.{IsDone, stayed}
use Rattle.s38_laws_flush.specs.durable.Crashes.{RepresentsBetween, RepresentsPrefix}
use Rattle.s38_laws_flush.specs.durable.Kept.{AreImages, HasParts, IsKeptOf}
use Rattle.s38_laws_flush.proofs.puts.StepLaws.{entry_trail}
use Rattle.s38_laws_flush.specs.puts.Trails.{IsTrailOf}
use Rattle.s38_rules.specs.state.Held.{Held}
use Rattle.s38_rules.specs.step.Legal.{Leads}
use Rattle.s38_rules.specs.state.State.{State}
use Rattle.s38_rules.specs.step.Step.{step}
use Rattle.s38_laws_state.specs.Order.{AreInOrder}
use Rattle.s38_flush.specs.Stepping.{raised}
use Rattle.s38_vault.specs.Content.{Content}
use Rattle.s38_laws_recovery.specs.Restartable.{AllImages, AreAnswered, CanRestartBetween, IsRestartable}
use Rattle.s38_laws_recovery.specs.Restarting.{CanRestart}
use Rattle.s38_laws_recovery.specs.Restarts.{IsRestartedAfter, RestartsBetween, RestartsTo, next_number_after, next_restarted}
use Rattle.s38_laws_recovery.proofs.CanLaws.{can_raised, can_restart}
use Rattle.s38_laws_recovery.proofs.RestartLaws.{restarts_there}
use Rattle.s38_laws_recovery.proofs.StepLaws.{done_ceiling, done_raised, entry_restartable}
use Rattle.s38_rules.specs.step.Histories.{Throughout, state_after}

pub leads_answered : (s : State) (before es : List Entry) (end : State) → Leads s before es end → AreAnswered s es
leads_answered s before [] end leads = tt
leads_answered s before (e ∷ es) end leads = (leads.0.reply, leads_answered (step s e.process e.event).state (before ++ e ∷ []) es end leads.1)

pub can_in : (s : State) (d : Durable) → IsKeptOf s d → AreInOrder s → AreImages d → IsRestartable s d → CanRestart d
can_in s d is order images ready = can_restart s d is order.lawful order.numbered order.fit images ready

-- the first of each
first_order : (s : State) (es : List Entry) → Throughout AreInOrder s es → AreInOrder s
first_order s [] all = all
first_order s (e ∷ es) all = all.0

first_images : (d : Durable) (s : State) (es : List Entry) → AllImages d s es → AreImages d
first_images d s [] all = all
first_images d s (e ∷ es) all = all.0

-- and the last
pub last_images : (d : Durable) (s : State) (es : List Entry) → AllImages d s es → AreImages (durable d s es)
last_images d s [] all = all
last_images d s (e ∷ es) all = last_images (after_reply d s e e.reply) (step s e.process e.event).state es all.1

-- with the ceiling of the same state
same_raised : (s t : State) (d : Durable) → t.held ≡ s.held → IsKeptOf s d → CanRestart d → CanRestart (raised d t)
same_raised s t d same is can =
    let ceiling : t.held.ceiling ≡ s.held.ceiling = ap (λ (h : Held). h.ceiling) same in
    let own = is.ceiling in
    let low = is.numbered.low in
    can_raised d t (omega (arith, own, ceiling)) (omega (arith, low, ceiling)) can

entry_raised : (s : State) (e : Entry) (d : Durable) (r : Reply) → (step s e.process e.event).reply ≡ r → IsKeptOf s d → IsRestartable s d → CanRestart d → CanRestart (raised d (step s e.process e.event).state)
entry_raised s e d (Done values) same is ready can = done_raised s e.process e.event d is (subst IsDone (sym same) tt) ready can
entry_raised s e d (Signal x) same is ready can =
    same_raised s (step s e.process e.event).state d (stayed s e.process e.event (not_done (Signal x) (step s e.process e.event).reply same (λ h. h))).held is can
entry_raised s e d MustWait same is ready can =
    same_raised s (step s e.process e.event).state d (stayed s e.process e.event (not_done MustWait (step s e.process e.event).reply same (λ h. h))).held is can

none_taken : (n : ℕ) → take {A = Entry} n [] ≡ []
none_taken zero = refl
none_taken (suc n) = refl

pub each_moment : DurableLaws → (entries : List Entry) (count : ℕ) (s : State) (d : Durable) → IsKeptOf s d → IsTrailOf s d → IsRestartable s d → AreAnswered s entries → Throughout AreInOrder s entries → AllImages d s entries
    → CanRestartBetween d s entries count
each_moment laws [] count s d is trail ready answered order images = record {
  before = subst (λ (es : List Entry). CanRestart (durable d s es)) (sym (none_taken count)) can;
  raised = subst (λ (es : List Entry). CanRestart (raised (durable d s es) (state_after s (take (count + 1) [])))) (sym (none_taken count))
      (subst (λ (es : List Entry). CanRestart (raised d (state_after s es))) (sym (none_taken (count + 1))) (same_raised s s d refl is can));
  behind = subst (λ (es : List Entry). CanRestart (durable d s es)) (sym (none_taken (count + 1))) can;
}
  where
    can : CanRestart d
    can = can_in s d is order images ready
each_moment laws (e ∷ es) zero s d is trail ready answered order images =
    let can = can_in s d is order.0 images.0 ready in
    let t = (step s e.process e.event).state in
    let new = after_reply d s e e.reply in
    record {
      before = can;
      raised = entry_raised s e d e.reply answered.0 is ready can;
      behind = can_in t new (entry_kept laws s e d e.reply answered.0 is) (first_order t es order.1) (first_images new t es images.1) (entry_restartable laws s e d e.reply answered.0 is trail ready);
    }
each_moment laws (e ∷ es) (suc count) s d is trail ready answered order images =
    let t = (step s e.process e.event).state in
    let new = after_reply d s e e.reply in
    let rest = each_moment laws es count t new (entry_kept laws s e d e.reply answered.0 is) (entry_trail laws s e d e.reply answered.0 is trail) (entry_restartable laws s e d e.reply answered.0 is trail ready) answered.1 order.1 images.1 in
    let more : suc (count + 1) ≡ suc count + 1 = omega arith in
    record {
      before = rest.before;
      raised = subst (λ (n : ℕ). CanRestart (raised (durable new t (take count es)) (state_after s (take n (e ∷ es))))) more rest.raised;
      behind = subst (λ (n : ℕ). CanRestart (durable d s (take n (e ∷ es)))) more rest.behind;
    }

-- ---- numbers

-- the number that is given next after the first so many entries is not above what a restart gives next, whichever of the
-- three states it leads to
pub record AreAbove (d : Durable) (s : State) (entries : List Entry) (count : ℕ) : Type 0 where
  pub before : next_number_after s entries count ≤ (durable d s (take count entries)).ceiling + 1
  pub raised : next_number_after s entries count ≤ (state_after s (take (count + 1) entries)).held.ceiling + 1
  pub behind : next_number_after s entries count ≤ (durable d s (take (count + 1) entries)).ceiling + 1

-- the ceiling of a machine never falls
entry_ceiling : (s : State) (e : Entry) (d : Durable) (r : Reply) → (step s e.process e.event).reply ≡ r → IsKeptOf s d → IsRestartable s d → s.held.ceiling ≤ (step s e.process e.event).state.held.ceiling
entry_ceiling s e d (Done values) same is ready = done_ceiling s e.process e.event d is (subst IsDone (sym same) tt) ready
entry_ceiling s e d (Signal x) same is ready =
    let stays = ap (λ (h : Held). h.ceiling) (stayed s e.process e.event (not_done (Signal x) (step s e.process e.event).reply same (λ h. h))).held in omega (arith, stays)
entry_ceiling s e d MustWait same is ready =
    let stays = ap (λ (h : Held). h.ceiling) (stayed s e.process e.event (not_done MustWait (step s e.process e.event).reply same (λ h. h))).held in omega (arith, stays)

pub each_above : DurableLaws → (entries : List Entry) (count : ℕ) (s : State) (d : Durable) → IsKeptOf s d → IsTrailOf s d → IsRestartable s d → AreAnswered s entries → AreAbove d s entries count
each_above laws [] count s d is trail ready answered = record {
  before = subst (λ (es : List Entry). (state_after s es).held.next ≤ (durable d s es).ceiling + 1) (sym (none_taken count)) low;
  raised =
      subst (λ (es : List Entry). (state_after s es).held.next ≤ (state_after s (take (count + 1) [])).held.ceiling + 1) (sym (none_taken count))
      (subst (λ (es : List Entry). s.held.next ≤ (state_after s es).held.ceiling + 1) (sym (none_taken (count + 1))) is.numbered.within);
  behind =
      subst (λ (es : List Entry). (state_after s es).held.next ≤ (durable d s (take (count + 1) [])).ceiling + 1) (sym (none_taken count))
      (subst (λ (es : List Entry). s.held.next ≤ (durable d s es).ceiling + 1) (sym (none_taken (count + 1))) low);
}
  where
    low : s.held.next ≤ d.ceiling + 1
    low = let own = is.ceiling in let within = is.numbered.within in omega (arith, own, within)
each_above laws (e ∷ es) zero s d is trail ready answered =
    let t = (step s e.process e.event).state in
    let new = after_reply d s e e.reply in
    let own = is.ceiling in
    let within = is.numbered.within in
    let more : s.held.ceiling ≤ t.held.ceiling = entry_ceiling s e d e.reply answered.0 is ready in
    let then : new.ceiling ≡ t.held.ceiling = (entry_kept laws s e d e.reply answered.0 is).ceiling in
    let old_low : s.held.next ≤ d.ceiling + 1 = omega (arith, own, within) in
    let up_low : s.held.next ≤ t.held.ceiling + 1 = omega (arith, within, more) in
    let new_low : s.held.next ≤ new.ceiling + 1 = omega (arith, up_low, then) in
    record { before = old_low; raised = up_low; behind = new_low }
each_above laws (e ∷ es) (suc count) s d is trail ready answered =
    let t = (step s e.process e.event).state in
    let new = after_reply d s e e.reply in
    let rest = each_above laws es count t new (entry_kept laws s e d e.reply answered.0 is) (entry_trail laws s e d e.reply answered.0 is trail) (entry_restartable laws s e d e.reply answered.0 is trail ready) answered.1 in
    let more : suc (count + 1) ≡ suc count + 1 = omega arith in
    record {
      before = rest.before;
      raised = subst (λ (n : ℕ). next_number_after t es count ≤ (state_after s (take n (e ∷ es))).held.ceiling + 1) more rest.raised;
      behind = subst (λ (n : ℕ). next_number_after t es count ≤ (durable d s (take n (e ∷ es))).ceiling + 1) more rest.behind;
    }

-- ---- what a crash leaves

pub left_restarts : (m : Content) (d : Durable) (s : State) (entries : List Entry) (count : ℕ) → HasParts m → CanRestartBetween d s entries count → RepresentsPrefix d s entries count m → IsRestartedAfter d s entries count m
left_restarts m d s entries count low can left = by left
  where
    by : RepresentsBetween m (durable d s (take count entries)) (state_after s (take (count + 1) entries)) (durable d s (take (count + 1) entries)) → IsRestartedAfter d s entries count m
    by (inl old) = inl (restarts_there m (durable d s (take count entries)) low old can.before)
    by (inr (inl up)) = inr (inl (restarts_there m (raised (durable d s (take count entries)) (state_after s (take (count + 1) entries))) low up can.raised))
    by (inr (inr new)) = inr (inr (restarts_there m (durable d s (take (count + 1) entries)) low new can.behind))

pub left_prefix : DurableLaws → (m : Content) (d : Durable) (s : State) (entries : List Entry) (count : ℕ) → IsKeptOf s d → IsTrailOf s d → IsRestartable s d → AreAnswered s entries → Throughout AreInOrder s entries → AllImages d s entries
    → HasParts m → RepresentsPrefix d s entries count m → IsRestartedAfter d s entries count m
left_prefix laws m d s entries count is trail ready answered order images low left =
    left_restarts m d s entries count low (each_moment laws entries count s d is trail ready answered order images) left

pub left_numbers : (m : Content) (d : Durable) (s : State) (entries : List Entry) (count : ℕ) → AreAbove d s entries count → IsRestartedAfter d s entries count m → next_number_after s entries count ≤ next_restarted m
left_numbers m d s entries count above restarted = by restarted
  where
    next_low : (e : Durable) → RestartsTo m e → next_number_after s entries count ≤ e.ceiling + 1 → next_number_after s entries count ≤ next_restarted m
    next_low e to low = subst (λ (n : ℕ). next_number_after s entries count ≤ n + 1) (sym to.ceiling) low

    by : RestartsBetween m (durable d s (take count entries)) (state_after s (take (count + 1) entries)) (durable d s (take (count + 1) entries)) → next_number_after s entries count ≤ next_restarted m
    by (inl old) = next_low (durable d s (take count entries)) old above.before
    by (inr (inl up)) = next_low (raised (durable d s (take count entries)) (state_after s (take (count + 1) entries))) up above.raised
    by (inr (inr new)) = next_low (durable d s (take (count + 1) entries)) new above.behind
