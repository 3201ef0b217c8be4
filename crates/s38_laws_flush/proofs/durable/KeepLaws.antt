-- Each step keeps what is durable with the state, and what it forces can be put.
use Rattle.std.proofs.Common.{◌≡◌, ◌∙◌, inl, inr, ℕ, ◌<◌, Bool, true, false, cond, not, List, [], ◌∷◌, ◌++◌, refl, sym, ap, subst, arith, zero, suc}
use Rattle.std.proofs.lemmas.List.Elements.{All-weaker}
use Rattle.std.specs.List.{list_any}
use Rattle.std.specs.Prelude.{All, None, Option, Some}
use Rattle.s38_base.specs.Limits.{body_limit}
use Rattle.s38_base.specs.declared.id.Kind.{Kind}
use Rattle.s38_code.specs.declared.entry.Entry.{Entry}
use Rattle.s38_code.specs.declared.event.Event.{Event}
use Rattle.s38_code.specs.declared.reply.Reply.TheVariants.{Done, MustWait, Signal}
use Rattle.s38_code.specs.declared.reply.Reply.{Reply}
use Rattle.s38_laws_units.proofs.StepLaws.{step_right}
use Rattle.s38_laws_units.specs.Right.{IsRight}
use Rattle.s38_commits.specs.Units.{UnitMap}
use Rattle.s38_durable_state.specs.Durable.{Durable, after_reply, body_after, durable, durable_after, followed_or_whole, kept, kept_after, whole_object, with_header_and_rows}
use Rattle.s38_durable_state.specs.Following.{Counts, Follows, Header, NumbersRise, StaysUser, StaysUserIn, StaysUserOf}
use Rattle.s38_durable_state.specs.Represents.{Represents}
use Rattle.s38_image.specs.PartPlaces.{ceiling_key}
use Rattle.s38_image.specs.Fitting.{IsImage}
use Rattle.s38_image.specs.Settled.{settled_body}
use Rattle.s38_image.specs.declared.stored.Stored.{Stored}
use Rattle.s38_image_writer.specs.Parts.{CanSettle}
use Rattle.s38_laws_objects.proofs.EventLaws.{step_well}
use Rattle.s38_laws_objects.specs.Outline.{is_forced}
use Rattle.s38_laws_objects.specs.Well.{AreWell, IsWell}
use Rattle.s38_rules.proofs.ChargeLaws.{found_number}
use Rattle.s38_rules.specs.store.Forcing.{Forced, is_whole, must_persist}
use Rattle.s38_rules.specs.state.Held.{Held, disk_in, is_on_disk, kind_of, object}
use Rattle.s38_rules.specs.step.Legal.{Leads}
use Rattle.s38_rules.specs.store.Room.{Room}
use Rattle.s38_rules.specs.state.State.{State}
use Rattle.s38_rules.specs.step.Step.{step}
use Rattle.s38_rules.specs.store.Storable.{IsStorable}
use Rattle.s38_rules.specs.store.Storing.{room_after}
use Rattle.s38_rules.specs.declared.object.Body.TheVariants as bodies
use Rattle.s38_rules.specs.declared.object.Body.{Body}
use Rattle.s38_rules.specs.declared.object.Object.{Object}
use Rattle.s38_vault.specs.Content.{Content}
use Rattle.s38_flush.specs.Growing.{AreBeginnings}
use Rattle.s38_flush.specs.Numbers.{numbered}
use Rattle.s38_flush.specs.Stepping.{AreNumbers, HaveHeaders, IsDue, Precedes}
use Rattle.s38_laws_flush.specs.durable.Kept.{AllReadable, AreImages, AreNumbered, AreReadable, HasOperand, IsKeptOf, IsReadableAfter}
use Rattle.s38_laws_flush.proofs.durable.FoundLaws.{all_found, found_all, kept_after_step, kept_one, kept_there, there_kept}
use Rattle.s38_laws_flush.proofs.durable.GoesThenLaws.{Goes, Left, object_given}
use Rattle.s38_laws_flush.proofs.durable.ImageLaws.{followed_image, user_by_kind}
use Rattle.s38_laws_flush.proofs.durable.NumberLaws.{due_numbered, durable_numbered}
use Rattle.s38_laws_flush.proofs.durable.SameLaws.{kind_at, kind_in}
use Rattle.s38_laws_flush.proofs.durable.SettleLaws.{all_settle}
use Rattle.s38_laws_flush.proofs.durable.StepLaws.{IsDone, Stayed, follows_room, stayed, step_goes, step_room, step_unforced}
use Rattle.s38_rules.specs.step.Histories.{state_after}

-- the laws of what is durable
pub record DurableLaws : Type 0 where
  pub follows : (all : List Forced) (d : Durable) (s : State) → NumbersRise s.held → Follows s.held (durable_after all d s)
  pub counts : (all : List Forced) (d : Durable) (s : State) (room : Room) → All (StaysUserIn d) s.held.objects → Counts (Some room) d
      → Counts (Some (room_after room all s.held.objects)) (durable_after all d s)
  pub stays : (s : State) (p : ℕ) (e : Event) (d : Durable) (n : ℕ) → NumbersRise (step s p e).state.held → Follows s.held d → is_forced n (must_persist s p e) ≡ false
      → kept (durable_after (must_persist s p e) d (step s p e).state).objects n ≡ kept d.objects n

-- ---- a step that takes effect

storable_of : (s : State) (n : ℕ) (o : Object) → AreWell s → object s.held n ≡ Some o → IsStorable o
storable_of s n o well found = (found_all IsWell s.held.objects n o well.objects found).storable

stays_user : (b old : Body) → kind_of old ≡ kind_of b → StaysUser b old
stays_user (bodies.Profile special limit) old same = user_by_kind old same
stays_user _ old same = tt

settled_kind : (units : UnitMap) (n : ℕ) (b : Body) → kind_of (settled_body units n b) ≡ kind_of b
settled_kind units n (bodies.DataSpace d) = refl
settled_kind units n (bodies.Journal j) = refl
settled_kind units n _ = refl

behind_kind : (b old : Body) → kind_of old ≡ kind_of b → kind_of (body_after b old) ≡ kind_of b
behind_kind (bodies.Profile special limit) old same = refl
behind_kind _ old same = same

module _ (laws : DurableLaws) (s : State) (p : ℕ) (e : Event) (d : Durable) (is : IsKeptOf s d) (does : IsDone (step s p e).reply) where
  abbrev t : State
  t = (step s p e).state

  abbrev all : List Forced
  all = must_persist s p e

  abbrev new : Durable
  new = durable_after all d t

  pub goes : Goes all s.held t.held
  goes = step_goes s p e is.numbered does

  well : AreWell t
  well = step_well s p e is.well

  right : IsRight t
  right = step_right s p e is.right

  -- what is kept is of the kind of what is there
  pub same_kinds : (n : ℕ) (o : Object) (x : Stored) → object t.held n ≡ Some o → kept d.objects n ≡ Some x → x.object.id.kind ≡ o.id.kind
  same_kinds n o x found kept_is =
      let there = there_kept s.held d n x is.follows kept_is in
      let q = there.object in
      let old : kind_of q.body ≡ q.id.kind = (storable_of s n q is.well there.found).kind in
      let behind : kind_of o.body ≡ o.id.kind = (storable_of t n o well found).kind in
      ap (λ (h : Header). h.id.kind) there.header ∙ sym old
      ∙ sym (by q there.found (goes.kinds n (object_given s.held n q is.numbered there.found))) ∙ behind
    where
      same : (a b : Kind) → Some a ≡ Some b → a ≡ b
      same a b h = cc

      by : (q : Object) → object s.held n ≡ Some q → Left (kind_at s.held n) (kind_at t.held n) → kind_of o.body ≡ kind_of q.body
      by q there (inl gone) = absurd (let h : Some (kind_of o.body) ≡ None = sym (ap kind_in found) ∙ gone in cc)
      by q there (inr kinds) = same (kind_of o.body) (kind_of q.body) (sym (ap kind_in found) ∙ kinds ∙ ap kind_in there)

  pub users : All (StaysUserIn d) t.held.objects
  users = all_found (StaysUserIn d) t.held goes.numbered.rising (λ o found. by o found (kept d.objects o.number.0) refl)
    where
      by : (o : Object) → object t.held o.number.0 ≡ Some o → (r : Option Stored) → kept d.objects o.number.0 ≡ r → StaysUserOf o.body r
      by o found None at = tt
      by o found (Some x) at =
          stays_user o.body x.object.body (is.bodies o.number.0 x at ∙ same_kinds o.number.0 o x found at ∙ sym (storable_of t o.number.0 o well found).kind)

  counts_by : (r : Option Room) → s.room ≡ r → Counts r d → Counts (follows_room r all t.held.objects) new
  counts_by None at counts = tt
  counts_by (Some room) at counts = laws.counts all d t room users counts

  -- the room counts what is durable
  pub counts_after : Counts t.room new
  counts_after = subst (λ (r : Option Room). Counts r new) (sym (step_room s p e does)) (counts_by s.room refl is.counts)

  -- ---- what is kept after it

  -- what holds of an object that is kept whole, and of one that follows, holds of what is kept
  module _ (P : Stored → Type 0) (n : ℕ) where
    abbrev HoldsWhole : Type 0
    HoldsWhole = (o : Object) → object t.held n ≡ Some o → o.on_disk ≡ true → list_any (is_whole n) all ≡ true → P (whole_object t o)

    abbrev HoldsFollowed : Type 0
    HoldsFollowed = (o : Object) (x : Stored) → object t.held n ≡ Some o → o.on_disk ≡ true → kept d.objects n ≡ Some x → P (with_header_and_rows o x)

    anew : HoldsWhole → HoldsFollowed → (o : Object) → object t.held n ≡ Some o → o.on_disk ≡ true → (b : Bool) → list_any (is_whole n) all ≡ b → P (cond b (whole_object t o) (followed_or_whole t o (kept d.objects n)))
    anew holds follows o found on true at = holds o found on at
    anew holds follows o found on false at = by (kept d.objects n) refl
      where
        before : is_on_disk s.held n ≡ true
        before = goes.disk n at (ap disk_in found ∙ on)

        nothing : (y : Option Object) → object s.held n ≡ y → kept d.objects n ≡ None → ⊥
        nothing None there none = let h : false ≡ true = sym (ap disk_in there) ∙ before in cc
        nothing (Some q) there none = let x = kept_there s.held d n q is.follows there (sym (ap disk_in there) ∙ before) in let h : None ≡ Some x.0 = sym none ∙ x.1 in cc

        by : (r : Option Stored) → kept d.objects n ≡ r → P (followed_or_whole t o r)
        by None none = absurd (nothing (object s.held n) refl none)
        by (Some x) there = follows o x found on there

    holds_behind : HoldsWhole → HoldsFollowed → (x : Stored) → kept new.objects n ≡ Some x → P x
    holds_behind holds follows x there = by (object t.held n) refl (sym (kept_after_step all d t n goes.numbered.rising) ∙ there)
      where
        same : (a b : Stored) → Some a ≡ Some b → a ≡ b
        same a b h = cc

        disk : (o : Object) → object t.held n ≡ Some o → (b : Bool) → o.on_disk ≡ b → cond b (Some (kept_after all t (kept d.objects o.number.0) o)) None ≡ Some x → P x
        disk o found false off h = cc
        disk o found true on h =
            subst P (ap (λ (k : ℕ). cond (list_any (is_whole k) all) (whole_object t o) (followed_or_whole t o (kept d.objects k))) (sym (found_number n o t.held.objects found)) ∙ same _ x h)
            (anew holds follows o found on (list_any (is_whole n) all) refl)

        by : (y : Option Object) → object t.held n ≡ y → kept_one all t d.objects y ≡ Some x → P x
        by None found h = cc
        by (Some o) found h = disk o found o.on_disk refl h

  bodies_behind : (n : ℕ) (x : Stored) → kept new.objects n ≡ Some x → kind_of x.object.body ≡ x.object.id.kind
  bodies_behind n x there =
      holds_behind (λ y. kind_of y.object.body ≡ y.object.id.kind) n
      (λ o found on at. settled_kind t.units o.number.0 o.body ∙ (storable_of t n o well found).kind)
      (λ o y found on at.
      let own = (storable_of t n o well found).kind in
      behind_kind o.body y.object.body (is.bodies n y at ∙ same_kinds n o y found at ∙ sym own) ∙ own)
      x there

  -- so it is kept
  pub done_kept : IsKeptOf t new
  done_kept = record {
    follows = laws.follows all d t goes.numbered.rising;
    bodies = bodies_behind;
    counts = counts_after;
    ceiling = refl;
    well = well;
    right = right;
    numbered = goes.numbered;
  }

  -- and can be read again
  pub images_after : AreImages d → AreReadable all t → AreImages new
  images_after images readable n x there = by (is_forced n all) refl
    where
      by : (b : Bool) → is_forced n all ≡ b → IsImage body_limit x
      by true speaks =
          holds_behind (IsImage body_limit) n
          (λ o found on at. readable.as_whole n o at found on)
          (λ o y found on at.
          followed_image t o y (readable.front n o speaks found on) (storable_of t n o well found) (images n y at) (same_kinds n o y found at) (λ user. readable.user n o speaks found on user))
          x there
      by false silent = images n x (sym (laws.stays s p e d n goes.numbered.rising is.follows silent) ∙ there)

  -- ---- what is put

  pub all_storable : All IsStorable t.held.objects
  all_storable = All-weaker IsWell IsStorable (λ o well. well.storable) t.held.objects well.objects

  pub all_settled : All (λ o. CanSettle t.units o.number.0 o.body) t.held.objects
  all_settled = all_settle t goes.numbered.rising right

  pub goes_before : (m : Content) → HaveHeaders d → Represents m d → AreBeginnings t.held d → Precedes t.held t.units m d t
  goes_before m headers stands begins = record { held = refl; units = refl; stands = stands; headers = headers; kinds = same_kinds; grows = begins }

  pub all_due : IsDue all d t
  all_due = record {
    objects = λ n silent. laws.stays s p e d n goes.numbered.rising is.follows silent;
    ceiling = λ not. goes.ceiling not ∙ sym is.ceiling;
  }

  -- what is forced is the number of an object, or that of none
  pub forced_low : (n : ℕ) → is_forced n all ≡ true → n < ceiling_key
  forced_low n speaks =
      let less = goes.forced n speaks in
      let within = goes.numbered.within in
      let low = goes.numbered.low in
      omega (arith, less, within, low)

  -- an instruction with an operand forces no number of none
  pub forced_numbers : HasOperand e → AreNumbers all
  forced_numbers has zero speaks = absurd (step_unforced s p e is.numbered does has speaks)
  forced_numbers has (suc n) speaks = (omega arith, forced_low (suc n) speaks)

  -- without the latter the same is kept
  pub numbered_same : durable_after (numbered all) d t ≡ durable_after all d t
  numbered_same = durable_numbered all d t goes.numbered.none

  pub numbered_due : IsDue (numbered all) d t
  numbered_due = due_numbered all s.held t.held d t refl is.follows is.numbered.none (laws.follows all d t goes.numbered.rising) goes.numbered.none all_due

-- ---- a step that takes no effect

pub stayed_kept : (s t : State) (d : Durable) → Stayed s t → AreWell t → IsRight t → IsKeptOf s d → IsKeptOf t d
stayed_kept s t d stays well right is = record {
  follows = subst (λ (h : Held). Follows h d) (sym stays.held) is.follows;
  bodies = is.bodies;
  counts = subst (λ (r : Option Room). Counts r d) (sym stays.room) is.counts;
  ceiling = is.ceiling ∙ sym (ap (λ (h : Held). h.ceiling) stays.held);
  well = well;
  right = right;
  numbered = subst AreNumbered (sym stays.held) is.numbered;
}

pub not_done : (r q : Reply) → q ≡ r → (IsDone r → ⊥) → IsDone q → ⊥
not_done r q same not is = not (subst IsDone same is)

pub other_kept : (s : State) (p : ℕ) (e : Event) (d : Durable) → (IsDone (step s p e).reply → ⊥) → IsKeptOf s d → IsKeptOf (step s p e).state d
other_kept s p e d not is = stayed_kept s (step s p e).state d (stayed s p e not) (step_well s p e is.well) (step_right s p e is.right) is

-- ---- entries, and a history

pub entry_kept : DurableLaws → (s : State) (e : Entry) (d : Durable) (r : Reply) → (step s e.process e.event).reply ≡ r → IsKeptOf s d → IsKeptOf (step s e.process e.event).state (after_reply d s e r)
entry_kept laws s e d (Done values) same is = done_kept laws s e.process e.event d is (subst IsDone (sym same) tt)
entry_kept laws s e d (Signal x) same is = other_kept s e.process e.event d (not_done (Signal x) (step s e.process e.event).reply same (λ h. h)) is
entry_kept laws s e d MustWait same is = other_kept s e.process e.event d (not_done MustWait (step s e.process e.event).reply same (λ h. h)) is

entry_images : DurableLaws → (s : State) (e : Entry) (d : Durable) (r : Reply) → (step s e.process e.event).reply ≡ r → IsKeptOf s d → AreImages d → IsReadableAfter s e r → AreImages (after_reply d s e r)
entry_images laws s e d (Done values) same is images readable = images_after laws s e.process e.event d is (subst IsDone (sym same) tt) images readable
entry_images laws s e d (Signal x) same is images readable = images
entry_images laws s e d MustWait same is images readable = images

pub history_kept : DurableLaws → (s : State) (d : Durable) (before history : List Entry) (end : State) → IsKeptOf s d → Leads s before history end → IsKeptOf end (durable d s history)
history_kept laws s d before [] end is leads = subst (λ (t : State). IsKeptOf t d) leads is
history_kept laws s d before (e ∷ es) end is leads =
    history_kept laws (step s e.process e.event).state (after_reply d s e e.reply) (before ++ e ∷ []) es end (entry_kept laws s e d e.reply leads.0.reply is) leads.1

pub history_images : DurableLaws → (s : State) (d : Durable) (before history : List Entry) (end : State) → IsKeptOf s d → AreImages d → AllReadable s history → Leads s before history end → AreImages (durable d s history)
history_images laws s d before [] end is images readable leads = images
history_images laws s d before (e ∷ es) end is images readable leads =
    history_images laws (step s e.process e.event).state (after_reply d s e e.reply) (before ++ e ∷ []) es end (entry_kept laws s e d e.reply leads.0.reply is)
    (entry_images laws s e d e.reply leads.0.reply is images readable.0) readable.1 leads.1

-- what is durable after one more entry
pub durable_more : (d : Durable) (s : State) (before history : List Entry) (t : State) (e : Entry) → Leads s before history t → durable d s (history ++ e ∷ []) ≡ after_reply (durable d s history) t e e.reply
durable_more d s before [] t e leads = ap (λ (u : State). after_reply d u e e.reply) leads
durable_more d s before (x ∷ xs) t e leads = durable_more (after_reply d s x x.reply) (step s x.process x.event).state (before ++ x ∷ []) xs t e leads.1

pub led_to : (s : State) (before history : List Entry) (t : State) → Leads s before history t → state_after s history ≡ t
led_to s before [] t leads = leads
led_to s before (e ∷ es) t leads = led_to (step s e.process e.event).state (before ++ e ∷ []) es t leads.1

pub led_by : (s : State) (history : List Entry) (e : Entry) → state_after s (history ++ e ∷ []) ≡ (step (state_after s history) e.process e.event).state
led_by s [] e = refl
led_by s (x ∷ xs) e = led_by (step s x.process x.event).state xs e
