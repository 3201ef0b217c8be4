-- What is durable after one event of a machine over a vault, and what a crash leaves then.
use Rattle.std.proofs.Common.{◌≡◌, ◌∙◌, ◌⊎◌, inl, inr, ℕ, ◌<◌, ◌≤◌, true, false, List, [], ◌∷◌, ◌++◌, refl, sym, ap, subst, arith}
use Rattle.std.proofs.lemmas.Bool.{cases_lt}
use Rattle.std.specs.Prelude.{Some}
use Rattle.s38_code.specs.History.{entry_after}
use Rattle.s38_code.specs.declared.entry.Entry.{Entry}
use Rattle.s38_code.specs.declared.event.Event.{Event}
use Rattle.s38_code.specs.declared.reply.Reply.TheVariants.{Done, MustWait, Signal}
use Rattle.s38_code.specs.declared.reply.Reply.{Reply}
use Rattle.s38_durable_state.specs.Durable.{Durable, after_reply, durable, durable_after}
use Rattle.s38_durable_state.specs.Represents.{Represents}
use Rattle.s38_laws_flush.proofs.durable.CrashLaws.{answered_left, during_left, during_stopped, earlier_left, earlier_stopped}
use Rattle.s38_laws_flush.proofs.durable.KeepLaws.{all_due, durable_more, goes_before, history_kept, images_after, led_by, led_to, numbered_due, numbered_same}
use Rattle.s38_laws_flush.proofs.durable.KeepLaws as kept_laws
use Rattle.s38_laws_flush.proofs.durable.ReadableLaws.{forced_readable, numbered_again}
use Rattle.s38_laws_flush.proofs.durable.StepLaws.{IsDone}
use Rattle.s38_laws_flush.specs.durable.Crashes.{IsKeptPrefix, RepresentsBetween}
use Rattle.s38_laws_flush.specs.durable.Kept.{AreImages, IsKeptOf}
use Rattle.s38_laws_objects.specs.Outline.{is_forced}
use Rattle.s38_laws_flush.proofs.puts.StepLaws.{begins_on, done_put, history_trail, short_on}
use Rattle.s38_laws_flush.specs.puts.OnePut.{BodiesAreShort}
use Rattle.s38_laws_flush.specs.puts.Trails.{IsTrailOf}
use Rattle.s38_laws_images.specs.readable.Readable.{IsAgain}
use Rattle.s38_laws_recovery.specs.Restartable.{AllImages}
use Rattle.s38_machine.specs.Stored.{kept_anew}
use Rattle.s38_rules.specs.store.Forcing.{Forced, must_persist}
use Rattle.s38_rules.specs.state.Held.{object}
use Rattle.s38_rules.specs.step.Legal.{IsProcess, Run, after}
use Rattle.s38_rules.specs.state.State.{State}
use Rattle.s38_rules.specs.step.Step.{step}
use Rattle.s38_rules.specs.declared.object.Object.{Object}
use Rattle.s38_flush.specs.Numbers.{numbered}
use Rattle.s38_flush.specs.Stepping.{HaveHeaders, IsDue, Precedes}
use Rattle.s38_vault.specs.Content.{Content}
use Rattle.s38_vault.specs.Vaults.{VaultView, most_changes}
use Rattle.s38_durable_machine.specs.Keeping.{FitsOnePut, KeepsStep}
use Rattle.s38_durable_machine.specs.Seen.{StoredView, answered_by, run_of}
use Rattle.s38_durable_machine.specs.Sound.{CanBeStored, EndsWithVault, HoldsOf, HoldsWhile, IsKeptFrom, IsOf, IsSoundOver}
use Rattle.s38_durable_machine.specs.declared.ending.Ending.{Ending}
use Rattle.s38_durable_machine.specs.declared.ending.Ending.TheVariants.{Going}
use Rattle.s38_durable_machine.proofs.RestartLaws.{last_images, more_images}
use Rattle.s38_durable_machine.proofs.UnforcedLaws.{still_headers, still_represents}
use Rattle.s38_durable_machine.proofs.StateLaws.{is_done, kept_done, step_stored, stored_bodies, stored_settles}
use Rattle.s38_rules.specs.step.Histories.{state_after}

module _ {V : Type 0} (view : V → VaultView) (holds : V → Content → Type 0) (leaves : V → ℕ → Content → Type 0) (laws : kept_laws.DurableLaws)
    (x : StoredView V) (p : ℕ) (e : Event) (is : IsSoundOver view holds leaves x) (going : x.ending ≡ Going) (may : IsProcess x.machine.origin p) where
  abbrev pub m : Run
  m = x.machine

  abbrev pub s : State
  s = m.state

  abbrev pub t : State
  t = (step s p e).state

  abbrev pub one : Entry
  one = entry_after m.history p e (step s p e).reply

  -- the machine has done the step, and the vault is as it was
  abbrev pub stepped : StoredView V
  stepped = record { machine = after m m.moment p e; vault = x.vault; first = x.first; ending = x.ending }

  pub run_is : run_of x ≡ m
  run_is = ap (λ (k : Ending). answered_by k m) going

  now_is : (m.moment ≡ (view x.vault).moment) × ((view x.vault).faults ≡ (view x.first).faults)
  now_is = subst (λ (k : Ending). EndsWithVault k m (view x.first) (view x.vault)) going is.ending

  -- ---- what is durable

  module _ (c : Content) (d : Durable) (of : IsOf c d m.origin) (kept : IsKeptFrom view holds leaves x d) where
    abbrev old : Durable
    old = durable d m.origin m.history

    abbrev new : Durable
    new = durable d m.origin (m.history ++ one ∷ [])

    pub is_old : IsKeptOf s old
    is_old = history_kept laws m.origin d [] m.history s of.kept is.sound.legal

    pub trails_old : IsTrailOf s old
    trails_old = history_trail laws m.origin d [] m.history s of.kept of.trail is.sound.legal

    pub short_old : BodiesAreShort old
    short_old = kept.short

    pub held : HoldsOf holds x.vault old
    held = subst (λ (k : Ending). HoldsWhile holds k x.vault old) going kept.now

    crash : (view x.first).shape.most ≡ most_changes → (k : ℕ) (n : Content) → (view x.first).moment ≤ k → k ≤ (view x.vault).moment → leaves x.vault k n → IsKeptPrefix d m.origin m.history m.marks k n
    crash = subst (λ (ending : Ending). (view x.first).shape.most ≡ most_changes → (k : ℕ) (n : Content) → (view x.first).moment ≤ k → k ≤ (view x.vault).moment → leaves x.vault k n
        → IsKeptPrefix d m.origin m.history (answered_by ending m).marks k n) going kept.crash

    new_is : new ≡ after_reply old s one (step s p e).reply
    new_is = durable_more d m.origin [] m.history s one is.sound.legal

    led_is : state_after m.origin (m.history ++ one ∷ []) ≡ t
    led_is = led_by m.origin m.history one ∙ ap (λ (u : State). (step u p e).state) (led_to m.origin [] m.history s is.sound.legal)

    ceiling_is : old.ceiling ≡ (state_after m.origin m.history).held.ceiling
    ceiling_is = is_old.ceiling ∙ ap (λ (u : State). u.held.ceiling) (sym (led_to m.origin [] m.history s is.sound.legal))

    -- after a step that takes effect
    done_by : (r : Reply) → (step s p e).reply ≡ r → IsDone r → after_reply old s one r ≡ durable_after (must_persist s p e) old t
    done_by (Done values) same does = refl
    done_by (Signal signal) same does = absurd does
    done_by MustWait same does = absurd does

    pub done_is : IsDone (step s p e).reply → new ≡ durable_after (must_persist s p e) old t
    done_is does = new_is ∙ done_by (step s p e).reply refl does

    -- after any other step
    other_by : (r : Reply) → (IsDone r → ⊥) → after_reply old s one r ≡ old
    other_by (Done values) not = absurd (not tt)
    other_by (Signal signal) not = refl
    other_by MustWait not = refl

    other_is : (IsDone (step s p e).reply → ⊥) → new ≡ old
    other_is not = new_is ∙ other_by (step s p e).reply not

    -- no body that is kept after it is too long
    can : CanBeStored t
    can = step_stored s p e is.state

    short_by : (IsDone (step s p e).reply → ⊥) ⊎ IsDone (step s p e).reply → BodiesAreShort new
    short_by (inl not) = subst (λ (y : Durable). BodiesAreShort y) (sym (other_is not)) short_old
    short_by (inr does) = subst (λ (y : Durable). BodiesAreShort y) (sym (done_is does)) (short_on laws s p e old is_old does (stored_bodies t can) short_old)

    pub short_new : BodiesAreShort new
    short_new = short_by (is_done (step s p e).reply)

    -- and all can be read again, if what is forced is
    images_old : AreImages old
    images_old = last_images d m.origin m.history kept.images

    abbrev IsForcedAgain : Type 0
    IsForcedAgain = (n : ℕ) (o : Object) → is_forced n (must_persist s p e) ≡ true → object t.held n ≡ Some o → IsAgain o

    images_by : (IsDone (step s p e).reply → ⊥) ⊎ IsDone (step s p e).reply → (IsDone (step s p e).reply → IsForcedAgain) → AreImages new
    images_by (inl not) again = subst (λ (y : Durable). AreImages y) (sym (other_is not)) images_old
    images_by (inr does) again =
        subst (λ (y : Durable). AreImages y) (sym (done_is does))
        (images_after laws s p e old is_old does images_old (forced_readable (must_persist s p e) t (stored_bodies t can) (stored_settles t can) (again does)))

    pub images_new : (IsDone (step s p e).reply → IsForcedAgain) → AllImages d m.origin (m.history ++ one ∷ [])
    images_new again = more_images d m.origin m.history one kept.images (images_by (is_done (step s p e).reply) again)

    -- ---- where nothing must persist

    pub none_again : kept_anew s p e ≡ [] → IsDone (step s p e).reply → IsForcedAgain
    none_again nothing does = λ n o speaks found.
        let none : must_persist s p e ≡ [] = sym (kept_done s p e is.state.room does) ∙ nothing in
        absurd (let h : false ≡ true = sym (ap (is_forced n) none) ∙ speaks in cc)

    quiet_by : (IsDone (step s p e).reply → ⊥) ⊎ IsDone (step s p e).reply → kept_anew s p e ≡ [] → (Represents held.content new) × HaveHeaders new
    quiet_by (inl not) nothing = (subst (λ (y : Durable). Represents held.content y) (sym (other_is not)) held.stands, subst (λ (y : Durable). HaveHeaders y) (sym (other_is not)) held.headers)
    quiet_by (inr does) nothing =
        let none : must_persist s p e ≡ [] = sym (kept_done s p e is.state.room does) ∙ nothing in
        let due : IsDue [] old t = subst (λ (all : List Forced). IsDue all old t) none (all_due laws s p e old is_old does) in
        let to : new ≡ durable_after [] old t = done_is does ∙ ap (λ (all : List Forced). durable_after all old t) none in (
          subst (λ (y : Durable). Represents held.content y) (sym to) (still_represents old t due held.content held.stands),
          subst (λ (y : Durable). HaveHeaders y) (sym to) (still_headers old t due held.headers),
        )

    pub quiet : kept_anew s p e ≡ [] → (Represents held.content new) × HaveHeaders new
    quiet nothing = quiet_by (is_done (step s p e).reply) nothing

    pub quiet_crash : kept_anew s p e ≡ [] → (view x.first).shape.most ≡ most_changes → (k : ℕ) (n : Content) → (view x.first).moment ≤ k → k ≤ (view x.vault).moment → leaves x.vault k n
        → IsKeptPrefix d m.origin (m.history ++ one ∷ []) (m.marks ++ m.moment ∷ []) k n
    quiet_crash nothing most k n low high left = by (cases_lt k m.moment)
      where
        by : (k < m.moment) ⊎ (m.moment ≤ k) → IsKeptPrefix d m.origin (m.history ++ one ∷ []) (m.marks ++ m.moment ∷ []) k n
        by (inl early) =
            earlier_left d m.origin m.history m.marks one m.moment k n is.sound.stored.marked ceiling_is early
            (crash most k n low high left)
        by (inr late) =
            let now = now_is.0 in
            let at : k ≡ (view x.vault).moment = omega (arith, now, late, high) in
            let same : n ≡ held.content = is.present held.content n held.held (subst (λ (j : ℕ). leaves x.vault j n) at left) in
            answered_left d m.origin m.history m.marks one m.first m.moment m.moment k n is.sound.stored.marked is.sound.stored.stamped (omega arith) late
            (subst (λ (c : Content). Represents c new) (sym same) (quiet nothing).0)

    -- ---- where something is

    module _ (does : IsDone (step s p e).reply) (v : V) (k : Ending) (keeps : KeepsStep view holds leaves x.vault v t.held t.units (numbered (must_persist s p e)) k) where
      pub precedes : Precedes t.held t.units held.content old t
      precedes = goes_before laws s p e old is_old does held.content held.headers held.stands (begins_on laws s p e old is_old does trails_old.trailing)

      due : IsDue (numbered (must_persist s p e)) old t
      due = numbered_due laws s p e old is_old does

      pub again : IsDone (step s p e).reply → IsForcedAgain
      again done = numbered_again (must_persist s p e) t.held can.numbered.none keeps.again

      kept_is : durable_after (numbered (must_persist s p e)) old t ≡ new
      kept_is = numbered_same laws s p e old is_old does ∙ sym (done_is does)

      pub kept_now : k ≡ Going → HoldsOf holds v new
      kept_now goes = subst (λ (y : Durable). HoldsOf holds v y) kept_is (keeps.kept goes held.content old t held.held precedes due)

      fits : (view x.first).shape.most ≡ most_changes → HaveHeaders (durable_after (numbered (must_persist s p e)) old t)
          → FitsOnePut (view x.vault).shape.most held.content (numbered (must_persist s p e)) (durable_after (numbered (must_persist s p e)) old t)
      fits most headers =
          let same = numbered_same laws s p e old is_old does in
          subst (λ (k : ℕ). FitsOnePut k held.content (numbered (must_persist s p e)) (durable_after (numbered (must_persist s p e)) old t)) (sym (ap (λ shape. shape.most) is.shape ∙ most))
          (subst (λ (y : Durable). FitsOnePut most_changes held.content (numbered (must_persist s p e)) y) (sym same)
          (done_put laws s p e old is_old does held.content trails_old held.headers (subst (λ (y : Durable). HaveHeaders y) same headers) short_old
          (subst (λ (y : Durable). BodiesAreShort y) (done_is does) short_new) held.stands))

      between : (view x.first).shape.most ≡ most_changes → (j : ℕ) (n : Content) → (view x.vault).moment < j → j ≤ (view v).moment → leaves v j n
          → RepresentsBetween n old (state_after m.origin (m.history ++ one ∷ [])) new
      between most j n low high left =
          subst (λ (u : State). RepresentsBetween n old u new) (sym led_is)
          (subst (λ (y : Durable). RepresentsBetween n old t y) kept_is
          (keeps.during held.content old t held.held precedes due (fits most) j n low high left))

      earlier : (view x.first).shape.most ≡ most_changes → (j : ℕ) (n : Content) → (view x.first).moment ≤ j → j ≤ (view x.vault).moment → leaves v j n
          → IsKeptPrefix d m.origin m.history m.marks j n
      earlier most j n low high left = crash most j n low high ((keeps.past j n high).1 left)

      pub going_crash : k ≡ Going → (view x.first).shape.most ≡ most_changes → (j : ℕ) (n : Content) → (view x.first).moment ≤ j → j ≤ (view v).moment → leaves v j n
          → IsKeptPrefix d m.origin (m.history ++ one ∷ []) (m.marks ++ (view v).moment ∷ []) j n
      going_crash goes most j n low high left = by (cases_lt j (view v).moment)
        where
          now : m.moment ≡ (view x.vault).moment
          now = now_is.0

          midst : j < (view v).moment → (((view x.vault).moment < j) ⊎ (j ≤ (view x.vault).moment)) → IsKeptPrefix d m.origin (m.history ++ one ∷ []) (m.marks ++ (view v).moment ∷ []) j n
          midst early (inl behind_old) =
              during_left d m.origin m.history m.marks one m.first m.moment (view v).moment j n is.sound.stored.marked is.sound.stored.stamped (omega (arith, now, behind_old)) early
              (between most j n behind_old high left)
          midst early (inr before) =
              earlier_left d m.origin m.history m.marks one (view v).moment j n is.sound.stored.marked ceiling_is early (earlier most j n low before left)

          by : (j < (view v).moment) ⊎ ((view v).moment ≤ j) → IsKeptPrefix d m.origin (m.history ++ one ∷ []) (m.marks ++ (view v).moment ∷ []) j n
          by (inl early) = midst early (cases_lt (view x.vault).moment j)
          by (inr late) =
              let at : j ≡ (view v).moment = omega (arith, late, high) in
              let here = kept_now goes in
              let same : n ≡ here.content = keeps.present here.content n here.held (subst (λ (i : ℕ). leaves v i n) at left) in
              let later = keeps.later in
              answered_left d m.origin m.history m.marks one m.first m.moment (view v).moment j n is.sound.stored.marked is.sound.stored.stamped (omega (arith, now, later)) late
              (subst (λ (c : Content). Represents c new) (sym same) here.stands)

      pub ended_crash : (view x.first).shape.most ≡ most_changes → (j : ℕ) (n : Content) → (view x.first).moment ≤ j → j ≤ (view v).moment → leaves v j n
          → IsKeptPrefix d m.origin (m.history ++ one ∷ []) m.marks j n
      ended_crash most j n low high left = by (cases_lt (view x.vault).moment j)
        where
          now : m.moment ≡ (view x.vault).moment
          now = now_is.0

          by : ((view x.vault).moment < j) ⊎ (j ≤ (view x.vault).moment) → IsKeptPrefix d m.origin (m.history ++ one ∷ []) m.marks j n
          by (inl behind_old) =
              during_stopped d m.origin m.history m.marks one m.first m.moment j n is.sound.stored.marked is.sound.stored.stamped (omega (arith, now, behind_old)) (between most j n behind_old high left)
          by (inr before) = earlier_stopped d m.origin m.history m.marks one j n is.sound.stored.marked ceiling_is (earlier most j n low before left)
