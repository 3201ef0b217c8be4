-- Step by step what is kept of journal spaces stays their beginning, few bytes are unforced, and what is put first fits in one
-- put.
use Rattle.std.proofs.Common.{◌≡◌, ◌∙◌, ℕ, ◌+◌, ◌/◌, ◌<◌, ◌≤◌, Bool, true, false, cond, List, [], ◌∷◌, ◌++◌, length, refl, sym, ap, subst, arith}
use Rattle.std.specs.FinMap.{get}
use Rattle.std.specs.List.{list_any}
use Rattle.std.specs.Prelude.{◌||◌, All, None, Option, Some, is_some}
use Rattle.s38_base.specs.Limits.{body_limit}
use Rattle.s38_code.specs.declared.entry.Entry.{Entry}
use Rattle.s38_code.specs.declared.event.Event.{Event}
use Rattle.s38_code.specs.declared.reply.Reply.TheVariants.{Done, MustWait, Signal}
use Rattle.s38_code.specs.declared.reply.Reply.{Reply}
use Rattle.s38_commits.proofs.MapLaws.{nat_itself}
use Rattle.s38_commits.specs.Units.{UnitMap}
use Rattle.s38_laws_commits.specs.Linked.{AreLinked}
use Rattle.s38_durable_state.specs.Durable.{Durable, after_reply, durable, durable_after, followed_or_whole, kept, kept_after, whole_object}
use Rattle.s38_durable_state.specs.Following.{Header}
use Rattle.s38_durable_state.specs.Represents.{Represents}
use Rattle.s38_image.specs.Settled.{settled_body}
use Rattle.s38_image.specs.declared.stored.Stored.{Stored}
use Rattle.s38_journals.specs.Journals.{JournalList, entries_len}
use Rattle.s38_laws_flush.proofs.durable.FoundLaws.{IsThere, found_all, kept_there, there_kept}
use Rattle.s38_laws_flush.proofs.durable.GoesThenLaws.{object_given}
use Rattle.s38_laws_flush.proofs.durable.KeepLaws.{DurableLaws, done_kept, entry_kept, forced_low, not_done, same_kinds}
use Rattle.s38_laws_flush.proofs.durable.SizeLaws.{body_low}
use Rattle.s38_laws_flush.proofs.durable.StepLaws.{IsDone, TakesEffect, stayed, step_room, stored_same, takes_effect, follows_room}
use Rattle.s38_laws_flush.specs.durable.Kept.{AreImages, IsKeptOf}
use Rattle.s38_laws_objects.specs.Outline.{is_forced}
use Rattle.s38_laws_objects.specs.Well.{AreWell, IsWell}
use Rattle.s38_laws_images.specs.openings.Bodies.{HoldsBody}
use Rattle.s38_rules.proofs.ChargeLaws.{found_number}
use Rattle.s38_rules.specs.step.Effect.{effect_of}
use Rattle.s38_rules.specs.store.Forcing.{Forced, Whole, is_whole, must_persist}
use Rattle.s38_rules.specs.state.Held.{Held, disk_in, is_on_disk, kind_of, object}
use Rattle.s38_rules.specs.step.Legal.{Leads}
use Rattle.s38_rules.specs.state.Parts.{journal_of, journal_part, part_at, part_in}
use Rattle.s38_rules.specs.state.PartsAt.{journal_at}
use Rattle.s38_rules.specs.state.LawfulParts.{journal_lawful}
use Rattle.s38_rules.specs.store.Room.{Room, image_len}
use Rattle.s38_rules.specs.state.State.{State}
use Rattle.s38_rules.specs.step.Step.{step}
use Rattle.s38_rules.specs.store.Storing.{stored}
use Rattle.s38_rules.specs.declared.object.Body.TheVariants as bodies
use Rattle.s38_rules.specs.declared.object.Body.{Body}
use Rattle.s38_rules.specs.declared.object.Object.{Object}
use Rattle.s38_flush.proofs.AfterLaws.{kept_after_step, kept_one}
use Rattle.s38_flush.specs.Growing.{AreBeginnings, IsBeginning}
use Rattle.s38_flush.specs.Numbers.{is_numbered, numbered}
use Rattle.s38_flush.specs.Stepping.{HaveHeaders, ceiling_changes, object_changes}
use Rattle.s38_vault.specs.Content.{Content}
use Rattle.s38_vault.specs.Vaults.{most_changes}
use Rattle.s38_laws_flush.specs.puts.Fresh.{AreFresh}
use Rattle.s38_flush.specs.Leftovers.{first_changes}
use Rattle.s38_laws_flush.specs.puts.Lengthening.{Lengthens}
use Rattle.s38_laws_flush.specs.puts.OnePut.{BodiesAreShort}
use Rattle.s38_laws_flush.specs.puts.Trails.{AreTrailing, IsTrailOf}
use Rattle.s38_laws_flush.specs.puts.Unforced.{AreLow}
use Rattle.s38_laws_flush.proofs.puts.BeginLaws.{image_short}
use Rattle.s38_laws_flush.proofs.puts.FreshLaws.{KeepsFresh, event_fresh}
use Rattle.s38_laws_flush.proofs.puts.LinkedLaws.{step_linked}
use Rattle.s38_laws_flush.proofs.puts.LongerLaws.{event_longer}
use Rattle.s38_laws_flush.proofs.puts.OneLaws.{alone_put, step_put}
use Rattle.s38_laws_flush.proofs.puts.JournalPartsLaws.{FirstShort, IsLed, SameEntries}
use Rattle.s38_laws_flush.proofs.puts.ShapeLaws.{CommitsWhole, event_few, rows_at, rows_in}
use Rattle.s38_laws_flush.proofs.puts.ShortLaws.{kept_after_short, settled_short}
use Rattle.s38_laws_flush.proofs.puts.TrailLaws.{journal_kind, stored_other, trails_at, trails_behind}
use Rattle.s38_laws_flush.proofs.puts.StoredEntryLaws.{stored_entries, stored_rows}
use Rattle.s38_laws_flush.proofs.puts.StepLowLaws.{step_low, done_fresh}

-- ---- journal spaces that are not on disk

settled_none : (units : UnitMap) (n : ℕ) (b : Body) → journal_of b ≡ None → journal_of (settled_body units n b) ≡ None
settled_none units n (bodies.DataSpace d) none = refl
settled_none units n (bodies.Journal j) none = absurd (let e : Some j ≡ None = none in cc)
settled_none units n _ none = none

-- ---- with what is durable

module _ (laws : DurableLaws) (s : State) (p : ℕ) (e : Event) (d : Durable) (is : IsKeptOf s d) (does : IsDone (step s p e).reply) where
  abbrev now : State
  now = (step s p e).state

  abbrev all : List Forced
  all = must_persist s p e

  abbrev new : Durable
  new = durable_after all d now

  abbrev effected : State
  effected = (effect_of s p e).state

  takes_it : TakesEffect s now p e
  takes_it = takes_effect s p e does

  then_kept : IsKeptOf now new
  then_kept = done_kept laws s p e d is does

  there : (n : ℕ) (x : Stored) → kept d.objects n ≡ Some x → IsThere s.held n x
  there n x found = there_kept s.held d n x is.follows found

  given : (n : ℕ) (x : Stored) → kept d.objects n ≡ Some x → n < s.held.next
  given n x found = let at = there n x found in object_given s.held n at.object is.numbered at.found

  storable_kind : (u : State) (n : ℕ) (o : Object) → AreWell u → object u.held n ≡ Some o → kind_of o.body ≡ o.id.kind
  storable_kind u n o well found = (found_all IsWell u.held.objects n o well.objects found).storable.kind

  kinds_on : (n : ℕ) (o : Object) (x : Stored) → object now.held n ≡ Some o → kept d.objects n ≡ Some x → kind_of x.object.body ≡ kind_of o.body
  kinds_on n o x found at = is.bodies n x at ∙ same_kinds laws s p e d is does n o x found at ∙ sym (storable_kind now n o then_kept.well found)

  -- what is kept is of the kind of what was there
  old_kind : (n : ℕ) (x : Stored) (at : kept d.objects n ≡ Some x) → kind_of x.object.body ≡ kind_of (there n x at).object.body
  old_kind n x at =
      let q = there n x at in
      is.bodies n x at ∙ ap (λ (h : Header). h.id.kind) q.header ∙ sym (storable_kind s n q.object is.well q.found)

  on_disk : (n : ℕ) (x : Stored) → kept d.objects n ≡ Some x → is_on_disk s.held n ≡ true
  on_disk n x at = let q = there n x at in ap disk_in q.found ∙ q.disk

  off_disk : (n : ℕ) → kept d.objects n ≡ None → is_on_disk s.held n ≡ false
  off_disk n none = by (object s.held n) refl
    where
      at : (o : Object) → object s.held n ≡ Some o → (b : Bool) → o.on_disk ≡ b → b ≡ false
      at o found true on = absurd (let x = kept_there s.held d n o is.follows found on in let f : None ≡ Some x.0 = sym none ∙ x.1 in cc)
      at o found false off = refl

      by : (x : Option Object) → object s.held n ≡ x → disk_in x ≡ false
      by None found = refl
      by (Some o) found = at o found o.on_disk refl

  old_rows : (n : ℕ) (x : Stored) → kept d.objects n ≡ Some x → x.object.rows ≡ rows_at s.held n
  old_rows n x at = let q = there n x at in ap (λ (h : Header). h.standing.rows) q.header ∙ sym (ap rows_in q.found)

  old_kinds : (n : ℕ) (x : Stored) → kept d.objects n ≡ Some x → is_some (part_at journal_part s.held n) ≡ true → is_some (journal_of x.object.body) ≡ true
  old_kinds n x at some = by (journal_of (there n x at).object.body) refl (sym (ap (λ (r : Option Object). is_some (part_in journal_part r)) (there n x at).found) ∙ some)
    where
      by : (r : Option JournalList) → journal_of (there n x at).object.body ≡ r → is_some r ≡ true → is_some (journal_of x.object.body) ≡ true
      by None of h = absurd (let f : false ≡ true = h in cc)
      by (Some j) of h = ap is_some (journal_kind x.object.body (there n x at).object.body j (sym (old_kind n x at)) of).1

  -- what is kept of journal spaces is their beginning
  pub trail_on : AreTrailing s.held d → AreTrailing now.held new
  trail_on trails = trails_behind all d s.held now (record {
    rising = then_kept.numbered.rising;
    longer = λ n less not.
        subst (λ (r : Option JournalList). Lengthens (part_at journal_part s.held n) r)
        (sym (ap (λ (h : Held). part_at journal_part h n) takes_it.held ∙ stored_other s p e effected n not)) ((event_longer s p e).each n less);
    given = given;
    kinds = kinds_on;
  }) trails

  -- and what was kept of one is the beginning of what it holds after the step
  pub begins_on : AreTrailing s.held d → AreBeginnings now.held d
  begins_on trails n o x j found at body =
      by (journal_kind x.object.body o.body j (sym (kinds_on n o x found at)) (ap journal_of body)) (part_at journal_part effected.held n) refl
      (subst (SameEntries (part_at journal_part effected.held n)) (sym (ap (λ (h : Held). part_at journal_part h n) takes_it.held) ∙ (ap (part_in journal_part) found ∙ ap journal_of body)) (stored_entries s p e effected n))
    where
      by : (own : (i : JournalList) × (journal_of x.object.body ≡ Some i)) (r : Option JournalList) → part_at journal_part effected.held n ≡ r → SameEntries r (Some j) → IsBeginning x j
      by own None seen same = absurd same
      by own (Some k) seen same =
          let i = own.0 in
          let longer = subst (Lengthens (part_at journal_part s.held n)) seen ((event_longer s p e).each n (given n x at)) in
          let trail = trails_at i.entries (part_at journal_part s.held n) k (trails n x i at own.1) longer in
          record { old = i; more = trail.rest; body = journal_lawful.back x.object.body i own.1; grown = same ∙ trail.entries }

  -- a step over a store
  pub done_trail : IsTrailOf s d → IsTrailOf now new
  done_trail trail = record {
    stored = ap is_some (step_room s p e does) ∙ by s.room trail.stored;
    trailing = trail_on trail.trailing;
    low = step_low s p e is.right is.numbered trail.stored trail.low does;
    fresh = done_fresh s p e is.right trail.linked.journal_disk trail.fresh does;
    linked = step_linked s p e is.right trail.linked;
  }
    where
      by : (r : Option Room) → is_some r ≡ true → is_some (follows_room r all now.held.objects) ≡ true
      by None some = some
      by (Some room) some = refl

  -- a journal space that is kept for the first time has no entry
  pub first_short : IsTrailOf s d → FirstShort d new
  first_short trail n x j none at of = by (object now.held n) refl (sym (kept_after_step all d now n then_kept.numbered.rising) ∙ at)
    where
      same : (a b : Stored) → Some a ≡ Some b → a ≡ b
      same a b h = cc

      keeps : KeepsFresh s.held effected.held
      keeps = event_fresh s p e is.right takes_it.permit trail.linked.journal_disk trail.fresh

      entries : (r : Option JournalList) → part_at journal_part effected.held n ≡ r → (i : JournalList) → SameEntries r (Some i) → i.entries ≡ []
      entries None seen i h = absurd h
      entries (Some k) seen i h = h ∙ keeps.still n k (off_disk n none) seen

      -- it is kept whole
      whole_one : (o : Object) → object now.held n ≡ Some o → x ≡ whole_object now o → (r : Option JournalList) → journal_of o.body ≡ r → image_len x.object.body ≤ body_limit
      whole_one o found as_whole None own =
          absurd (let e : None ≡ Some j = sym (settled_none now.units o.number.0 o.body own) ∙ sym (ap (λ (z : Stored). journal_of z.object.body) as_whole) ∙ of in cc)
      whole_one o found as_whole (Some i) own =
          let seen : part_at journal_part now.held n ≡ Some i = ap (part_in journal_part) found ∙ own in
          let empty : i.entries ≡ [] =
          entries (part_at journal_part effected.held n) refl i
          (subst (SameEntries (part_at journal_part effected.held n)) (sym (ap (λ (h : Held). part_at journal_part h n) takes_it.held) ∙ seen) (stored_entries s p e effected n)) in
          let size : image_len x.object.body ≡ entries_len i.entries =
          ap (λ (z : Stored). image_len z.object.body) as_whole ∙ ap (λ (b : Body). image_len (settled_body now.units o.number.0 b)) (journal_lawful.back o.body i own) in
          let none_is : entries_len i.entries ≡ 0 = ap entries_len empty in
          omega (arith, size, none_is)

      anew : (o : Object) (b : Bool) → cond b (whole_object now o) (followed_or_whole now o None) ≡ whole_object now o
      anew o true = refl
      anew o false = refl

      disk : (o : Object) → object now.held n ≡ Some o → (b : Bool) → o.on_disk ≡ b → cond b (Some (kept_after all now (kept d.objects o.number.0) o)) None ≡ Some x → image_len x.object.body ≤ body_limit
      disk o found false off h = cc
      disk o found true on h =
          whole_one o found
          (sym (same (kept_after all now (kept d.objects o.number.0) o) x h)
          ∙ ap (λ (i : ℕ). cond (list_any (is_whole i) all) (whole_object now o) (followed_or_whole now o (kept d.objects i))) (found_number n o now.held.objects found)
          ∙ ap (λ (r : Option Stored). cond (list_any (is_whole n) all) (whole_object now o) (followed_or_whole now o r)) none
          ∙ anew o (list_any (is_whole n) all)) (journal_of o.body) refl

      by : (y : Option Object) → object now.held n ≡ y → kept_one all now d.objects y ≡ Some x → image_len x.object.body ≤ body_limit
      by None found h = cc
      by (Some o) found h = disk o found o.on_disk refl h

  -- where its objects keep to the limit, what is kept after it is short
  pub short_on : All (HoldsBody body_limit) now.held.objects → BodiesAreShort d → BodiesAreShort new
  short_on hold short n y at = by (object now.held n) refl (sym (kept_after_step all d now n then_kept.numbered.rising) ∙ at)
    where
      IsFew : Stored → Type 0
      IsFew z = journal_of z.object.body ≡ None → image_len z.object.body ≤ body_limit

      same : (a b : Stored) → Some a ≡ Some b → a ≡ b
      same a b h = cc

      as_whole : (o : Object) → object now.held n ≡ Some o → IsFew (whole_object now o)
      as_whole o found = settled_short now.units o.number.0 o.body (found_all (HoldsBody body_limit) now.held.objects n o hold found)

      kept_few : (o : Object) → object now.held n ≡ Some o → (b : Bool) (r : Option Stored) → kept d.objects o.number.0 ≡ r → IsFew (cond b (whole_object now o) (followed_or_whole now o r))
      kept_few o found true r was = as_whole o found
      kept_few o found false None was = as_whole o found
      kept_few o found false (Some x) was = kept_after_short o.body x.object.body (short o.number.0 x was)

      disk : (o : Object) → object now.held n ≡ Some o → (b : Bool) → cond b (Some (kept_after all now (kept d.objects o.number.0) o)) None ≡ Some y → IsFew y
      disk o found false h = cc
      disk o found true h = subst IsFew (same (kept_after all now (kept d.objects o.number.0) o) y h) (kept_few o found (list_any (is_whole o.number.0) all) (kept d.objects o.number.0) refl)

      by : (r : Option Object) → object now.held n ≡ r → kept_one all now d.objects r ≡ Some y → IsFew y
      by None found h = cc
      by (Some o) found h = disk o found o.on_disk h

  -- it leads to the objects that the store then keeps
  led_on : IsTrailOf s d → HaveHeaders d → HaveHeaders new → BodiesAreShort d → BodiesAreShort new → IsLed all d s now effected.held
  led_on trail headers then_headers short then_short = record {
    rising = then_kept.numbered.rising;
    own = is.bodies;
    then_own = then_kept.bodies;
    kinds = kinds_on;
    given = given;
    on_disk = on_disk;
    off_disk = off_disk;
    old_rows = old_rows;
    old_kinds = old_kinds;
    longer = event_longer s p e;
    entries = λ n. subst (λ (h : Held). SameEntries (part_at journal_part effected.held n) (part_at journal_part h n)) (sym takes_it.held) (stored_entries s p e effected n);
    rows = rows_on;
    disk = disk_on;
    few = event_few s p e takes_it.permit;
    trails = trail.trailing;
    low = trail.low;
    headers = headers;
    then_headers = then_headers;
    ends = λ n x at. body_low x (then_headers n x at);
    short = short;
    then_short = then_short;
    first = first_short trail;
  }
    where
      rows_on : (n : ℕ) → rows_at now.held n ≡ rows_at effected.held n
      rows_on n = ap (λ (h : Held). rows_at h n) takes_it.held ∙ stored_rows s p e effected n

      disk_on : (n : ℕ) → is_on_disk now.held n ≡ is_on_disk effected.held n
      disk_on n = ap (λ (h : Held). is_on_disk h n) takes_it.held ∙ (stored_same s p e effected).disk n

  -- what it puts first fits in one put
  pub done_put : (m : Content) → IsTrailOf s d → HaveHeaders d → HaveHeaders new → BodiesAreShort d → BodiesAreShort new → Represents m d → length (first_changes most_changes new (object_changes (numbered all) (get m) new)) ≤ most_changes
  done_put m trail headers then_headers short then_short stands = step_put all d s now effected.held (led_on trail headers then_headers short then_short) m stands (forced_low laws s p e d is does)

  -- a COMMIT puts few parts
  pub commit_put : (m : Content) → IsTrailOf s d → HaveHeaders d → HaveHeaders new → BodiesAreShort d → BodiesAreShort new → Represents m d → (n : ℕ) → CommitsWhole s.held effected.held all n
      → length (object_changes (numbered all) (get m) new) ≤ (journal_at effected.held n).unforced / 512 + 3
  commit_put m trail headers then_headers short then_short stands n commits =
      alone_put all d s now effected.held (led_on trail headers then_headers short then_short) m stands n commits.only
      (forced_low laws s p e d is does n (ap (is_forced n) commits.only ∙ ap (λ b. b || false) (nat_itself n))) commits.there
      (ap (λ (h : Held). rows_at h n) takes_it.held ∙ stored_rows s p e effected n ∙ commits.rows n)
      (ap (λ (h : Held). is_on_disk h n) takes_it.held ∙ (stored_same s p e effected).disk n ∙ commits.disk n)

  -- and no ceiling
  pub commit_ceiling : (m : Content) (n : ℕ) → CommitsWhole s.held effected.held all n → ceiling_changes (numbered all) (get m) new ≡ []
  commit_ceiling m n commits = ap (λ (fs : List Forced). ceiling_changes (numbered fs) (get m) new) commits.only ∙ by (is_numbered (Whole n))
    where
      by : (b : Bool) → ceiling_changes (cond b (Whole n ∷ []) []) (get m) new ≡ []
      by true = refl
      by false = refl

-- ---- a step that takes no effect, and a history

pub other_trail : (s : State) (p : ℕ) (e : Event) (d : Durable) → (IsDone (step s p e).reply → ⊥) → IsTrailOf s d → IsTrailOf (step s p e).state d
other_trail s p e d not trail =
    let stays = stayed s p e not in
    record {
      stored = ap is_some stays.room ∙ trail.stored;
      trailing = subst (λ (h : Held). AreTrailing h d) (sym stays.held) trail.trailing;
      low = subst (λ (h : Held). AreLow h (step s p e).state.units) (sym stays.held) (subst (λ (us : UnitMap). AreLow s.held us) (sym stays.units) trail.low);
      fresh = subst AreFresh (sym stays.held) trail.fresh;
      linked = subst AreLinked (sym stays.held) trail.linked;
    }

pub entry_trail : DurableLaws → (s : State) (e : Entry) (d : Durable) (r : Reply) → (step s e.process e.event).reply ≡ r → IsKeptOf s d → IsTrailOf s d → IsTrailOf (step s e.process e.event).state (after_reply d s e r)
entry_trail laws s e d (Done values) same is trail = done_trail laws s e.process e.event d is (subst IsDone (sym same) tt) trail
entry_trail laws s e d (Signal x) same is trail = other_trail s e.process e.event d (not_done (Signal x) (step s e.process e.event).reply same (λ h. h)) trail
entry_trail laws s e d MustWait same is trail = other_trail s e.process e.event d (not_done MustWait (step s e.process e.event).reply same (λ h. h)) trail

pub history_trail : DurableLaws → (s : State) (d : Durable) (before history : List Entry) (end : State) → IsKeptOf s d → IsTrailOf s d → Leads s before history end → IsTrailOf end (durable d s history)
history_trail laws s d before [] end is trail leads = subst (λ (t : State). IsTrailOf t d) leads trail
history_trail laws s d before (e ∷ es) end is trail leads =
    history_trail laws (step s e.process e.event).state (after_reply d s e e.reply) (before ++ e ∷ []) es end (entry_kept laws s e d e.reply leads.0.reply is) (entry_trail laws s e d e.reply leads.0.reply is trail) leads.1

-- ---- what can be read again is short

pub images_short : (s : State) (d : Durable) → IsKeptOf s d → AreImages d → BodiesAreShort d
images_short s d is images n x at none = image_short x (images n x at) (is.bodies n x at) none
