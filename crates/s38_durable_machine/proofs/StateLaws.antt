-- After each step a store can keep the objects.
use Rattle.std.proofs.Common.{◌≡◌, ◌∙◌, ◌⊎◌, inl, inr, ℕ, Bool, true, false, cond, List, [], ◌∷◌, refl, sym, ap, subst, arith}
use Rattle.std.proofs.lemmas.List.Elements.{All-weaker}
use Rattle.std.specs.Prelude.{All, None, Option, Some, is_some}
use Rattle.s38_base.specs.Limits.{body_limit}
use Rattle.s38_code.specs.declared.entry.Entry.{Entry}
use Rattle.s38_code.specs.declared.event.Event.{Event}
use Rattle.s38_code.specs.declared.reply.Reply.TheVariants.{Done, MustWait, Signal}
use Rattle.s38_code.specs.declared.reply.Reply.{Reply}
use Rattle.s38_laws_units.proofs.StepLaws.{step_right}
use Rattle.s38_laws_images.proofs.form.HistoryLaws.{step_forms}
use Rattle.s38_image_writer.specs.Parts.{CanSettle}
use Rattle.s38_laws_flush.proofs.durable.NumberLaws.{numbers_numbered}
use Rattle.s38_laws_flush.proofs.durable.SettleLaws.{all_settle}
use Rattle.s38_laws_flush.proofs.durable.StepLaws.{IsDone, follows_room, stayed, step_goes, step_room}
use Rattle.s38_laws_flush.specs.durable.Kept.{AreNumbered}
use Rattle.s38_machine.specs.Stored.{kept_anew, must_persist_by, must_persist_in}
use Rattle.s38_laws_objects.proofs.EventLaws.{step_well}
use Rattle.s38_laws_objects.specs.Well.{IsWell}
use Rattle.s38_laws_images.specs.openings.Bodies.{HoldsBody}
use Rattle.s38_laws_images.specs.readable.Readable.{IsFit}
use Rattle.s38_rules.specs.store.Forcing.{Forced, must_persist}
use Rattle.s38_rules.specs.store.Room.{Room}
use Rattle.s38_rules.specs.state.State.{State, waits}
use Rattle.s38_rules.specs.step.Step.{awake_verdict, by_verdict, by_waiting, step, verdict_of}
use Rattle.s38_rules.specs.store.Storable.{IsStorable}
use Rattle.s38_rules.specs.declared.object.Object.{Object}
use Rattle.s38_rules.specs.declared.verdict.Verdict.TheVariants.{Permit, Refuse, Wait}
use Rattle.s38_rules.specs.declared.verdict.Verdict.{Verdict}
use Rattle.s38_flush.specs.Numbers.{numbered}
use Rattle.s38_flush.specs.Stepping.{AreNumbers}
use Rattle.s38_laws_state.proofs.StepLaws.{step_in_order}
use Rattle.s38_laws_state.specs.Order.{AreInOrder}
use Rattle.s38_durable_machine.specs.Sound.{CanBeStored}
use Rattle.s38_rules.specs.step.Histories.{Throughout}

-- ---- what must persist

-- a reply says that the step took effect, or not
pub is_done : (r : Reply) → (IsDone r → ⊥) ⊎ IsDone r
is_done (Done values) = inr tt
is_done (Signal x) = inl (λ is. is)
is_done MustWait = inl (λ is. is)

in_room : (room : Option Room) (all : List Forced) → is_some room ≡ true → must_persist_in room all ≡ all
in_room None all is = absurd (let h : false ≡ true = is in cc)
in_room (Some room) all is = refl

-- where there is a store, a step that takes effect has it keep what it forces
pub kept_done : (s : State) (p : ℕ) (e : Event) → is_some s.room ≡ true → IsDone (step s p e).reply → kept_anew s p e ≡ must_persist s p e
unfolding step verdict_of
kept_done s p e room = by (waits s p)
  where
    verdict : (v : Verdict) → IsDone (by_verdict s p e v).reply → must_persist_by s p e v ≡ must_persist s p e
    verdict Permit is = in_room s.room (must_persist s p e) room
    verdict Wait is = absurd is
    verdict (Refuse x) is = absurd is

    by : (b : Bool) → IsDone (by_waiting b s p e).reply → must_persist_by s p e (cond b Wait (awake_verdict s p e)) ≡ must_persist s p e
    by true is = absurd is
    by false is = verdict (awake_verdict s p e) is

-- and another has it keep nothing
pub kept_none : (s : State) (p : ℕ) (e : Event) → (IsDone (step s p e).reply → ⊥) → kept_anew s p e ≡ []
unfolding step verdict_of
kept_none s p e = by (waits s p)
  where
    verdict : (v : Verdict) → (IsDone (by_verdict s p e v).reply → ⊥) → must_persist_by s p e v ≡ []
    verdict Permit not = absurd (not tt)
    verdict Wait not = refl
    verdict (Refuse x) not = refl

    by : (b : Bool) → (IsDone (by_waiting b s p e).reply → ⊥) → must_persist_by s p e (cond b Wait (awake_verdict s p e)) ≡ []
    by true not = refl
    by false not = verdict (awake_verdict s p e) not

-- ---- after a step

followed_room : (room : Option Room) (all : List Forced) (os : List Object) → is_some room ≡ true → is_some (follows_room room all os) ≡ true
followed_room None all os is = is
followed_room (Some room) all os is = refl

module _ (s : State) (p : ℕ) (e : Event) (can : CanBeStored s) where
  numbered_by : (IsDone (step s p e).reply → ⊥) ⊎ IsDone (step s p e).reply → AreNumbered (step s p e).state.held
  numbered_by (inl not) = subst AreNumbered (sym (stayed s p e not).held) can.numbered
  numbered_by (inr does) = (step_goes s p e can.numbered does).numbered

  room_by : (IsDone (step s p e).reply → ⊥) ⊎ IsDone (step s p e).reply → is_some (step s p e).state.room ≡ true
  room_by (inl not) = ap is_some (stayed s p e not).room ∙ can.room
  room_by (inr does) = ap is_some (step_room s p e does) ∙ followed_room s.room (must_persist s p e) (step s p e).state.held.objects can.room

  pub step_stored : CanBeStored (step s p e).state
  step_stored = record {
    room = room_by (is_done (step s p e).reply);
    well = step_well s p e can.well;
    right = step_right s p e can.right;
    numbered = numbered_by (is_done (step s p e).reply);
    ordered = step_in_order s p e can.well can.ordered;
    forms = step_forms s p e can.forms;
  }

  -- what must persist are numbers of objects
  numbers_by : (IsDone (step s p e).reply → ⊥) ⊎ IsDone (step s p e).reply → AreNumbers (numbered (kept_anew s p e))
  numbers_by (inl not) = subst (λ (all : List Forced). AreNumbers (numbered all)) (sym (kept_none s p e not)) (λ n speaks. absurd (let h : false ≡ true = speaks in cc))
  numbers_by (inr does) =
      subst (λ (all : List Forced). AreNumbers (numbered all)) (sym (kept_done s p e can.room does))
      (numbers_numbered (must_persist s p e) (λ n speaks.
      let goes = step_goes s p e can.numbered does in
      let less = goes.forced n speaks in
      let within = goes.numbered.within in
      let low = goes.numbered.low in
      omega (arith, less, within, low)))

  pub anew_numbers : AreNumbers (numbered (kept_anew s p e))
  anew_numbers = numbers_by (is_done (step s p e).reply)

-- what a store can keep can be put
pub stored_storable : (s : State) → CanBeStored s → All IsStorable s.held.objects
stored_storable s can = All-weaker IsWell IsStorable (λ o well. well.storable) s.held.objects can.well.objects

pub stored_settles : (s : State) → CanBeStored s → All (λ o. CanSettle s.units o.number.0 o.body) s.held.objects
stored_settles s can = all_settle s can.numbered.rising can.right

-- bodies keep to the limit of a body
pub stored_bodies : (s : State) → CanBeStored s → All (HoldsBody body_limit) s.held.objects
stored_bodies s can = subst (λ (limit : ℕ). All (HoldsBody limit) s.held.objects) can.ordered.limit can.ordered.bodies

-- and it is read again
pub stored_fit : (s : State) → CanBeStored s → All IsFit s.held.objects
stored_fit s can =
    let storable = stored_storable s can in
    let limits = stored_bodies s can in
    λ k d within. record { storable = storable k d within; limits = limits k d within; form = can.forms.objects k d within }

-- the objects are in order at each moment
pub stored_order : (s : State) (history : List Entry) → CanBeStored s → Throughout AreInOrder s history
stored_order s [] can = can.ordered
stored_order s (e ∷ es) can = (can.ordered, stored_order (step s e.process e.event).state es (step_stored s e.process e.event can))
