-- What a vault holds after the first objects represents what is durable once these are ensured, and all of them make
-- durable what a checkpointed run leaves.
use Rattle.std.proofs.Common.{◌≡◌, ◌∙◌, ℕ, zero, suc, ◌<◌, ◌≤◌, ◌==◌, Bool, true, false, cond, List, [], ◌∷◌, ◌++◌, map, refl, sym, ap, subst, arith, append-nil, append_assoc}
use Rattle.std.proofs.lemmas.List.Elements.{All-from_recursion, All-head, All-tail}
use Rattle.std.specs.FinMap.{get}
use Rattle.std.specs.List.{AllByRecursion, flat_map, list_any}
use Rattle.std.specs.List.Sorted.{IsStrictlyIncreasing}
use Rattle.std.specs.Option.{option_map}
use Rattle.std.specs.Prelude.{◌||◌, All, None, Option, Some, is_some, nat_le}
use Rattle.s38_base.specs.declared.page.Change.{Change}
use Rattle.s38_base.specs.declared.page.Key.{Key}
use Rattle.s38_base.specs.declared.page.Page.{Page}
use Rattle.s38_checkpoint.proofs.PassLaws.{sorted_by, up_to_last}
use Rattle.s38_checkpoint.specs.Closing.{closing, kept_whole}
use Rattle.s38_checkpoint.specs.Ensuring.{IsAfter, is_ensured, journal_ahead}
use Rattle.s38_checkpoint.specs.Passing.{last_object_number}
use Rattle.s38_durable_state.specs.Durable.{Durable, closed, durable_after, kept, kept_after, kept_by_force, whole_object}
use Rattle.s38_durable_state.specs.Following.{NumbersRise, image_header_in, object_number}
use Rattle.s38_durable_state.specs.Represents.{Represents, ceiling_parts, page_of, parts_at, parts_end, parts_in}
use Rattle.s38_page_diff.proofs.WantedLaws.{pages_held}
use Rattle.s38_page_diff.specs.Differences.{wanted_at}
use Rattle.s38_image.specs.PartPlaces.{ceiling_key}
use Rattle.s38_image.specs.declared.stored.Stored.{Stored}
use Rattle.s38_laws_flush.proofs.durable.FoundLaws.{all_found, found_all, kept_after_step, kept_one}
use Rattle.s38_laws_flush.specs.durable.Kept.{IsKeptOf}
use Rattle.s38_rules.specs.families.Changes.{Ensured, done}
use Rattle.s38_rules.specs.store.Forcing.{Forced, forced_by}
use Rattle.s38_rules.specs.state.Held.{object, object_in}
use Rattle.s38_rules.specs.state.Journaling.{is_that_number}
use Rattle.s38_rules.specs.state.State.{State}
use Rattle.s38_rules.specs.declared.object.Object.{Object}
use Rattle.s38_vault.specs.Content.{Content}
use Rattle.s38_vault.specs.Directory.{NameObjects, keys_of}
use Rattle.s38_laws_checkpoint.proofs.prefix.EnsureLaws.{AreEnsured, FollowingLaw, found_marked, one_more}
use Rattle.s38_laws_checkpoint.proofs.prefix.FollowLaws.{nothing_off}
use Rattle.s38_laws_checkpoint.proofs.prefix.MarkLaws.{marked, marked_numbers, whole_found}
use Rattle.s38_laws_checkpoint.proofs.prefix.TestLaws.{beyond, itself, none_both, or_none, or_true, within}

same_stored : (x y : Stored) → Some x ≡ Some y → x ≡ y
same_stored x y h = cc

none_of : (page : Option Page) → (is_some page ≡ true → ⊥) → page ≡ None
none_of None not = refl
none_of (Some page) not = absurd (not refl)

-- ---- before the first object

unmarked : (os : List Object) → All (λ o. 1 ≤ o.number.0) os → map (marked 0) os ≡ os
unmarked [] from = refl
unmarked (o ∷ os) from =
    let off : o.on_disk || nat_le o.number.0 0 ≡ o.on_disk = ap (λ b. o.on_disk || b) (beyond o.number.0 0 (All-head (λ x. 1 ≤ x.number.0) o os from)) ∙ or_none o.on_disk in
    (λ i. record o { on_disk = off i } ∷ unmarked os (All-tail (λ x. 1 ≤ x.number.0) o os from) i)

-- a list in which nothing is found is empty
nothing_there : (xs : List Stored) → ((n : ℕ) → kept xs n ≡ None) → xs ≡ []
nothing_there [] none = refl
nothing_there (x ∷ xs) none = absurd (apart (sym (ap (λ b. cond b (Some x) (kept xs x.object.number.0)) (itself x.object.number.0)) ∙ none x.object.number.0))
  where
    apart : Some x ≡ None → ⊥
    apart h = cc

module _ (law : FollowingLaw) (s : State) (d : Durable) (is : IsKeptOf s d) where
  abbrev now : ℕ → Option Stored
  now n = kept (kept_whole s.units s.held) n

  numbers_from : All (λ o. 1 ≤ o.number.0) s.held.objects
  numbers_from = all_found (λ o. 1 ≤ o.number.0) s.held is.numbered.rising (λ o found. by o found o.number.0 refl)
    where
      nothing : (o : Object) → object s.held 0 ≡ Some o → ⊥
      nothing o e = let h : None ≡ Some o = sym is.numbered.none ∙ e in cc

      by : (o : Object) → object s.held o.number.0 ≡ Some o → (n : ℕ) → o.number.0 ≡ n → 1 ≤ n
      by o found zero e = absurd (nothing o (subst (λ (j : ℕ). object s.held j ≡ Some o) e found))
      by o found (suc n) e = omega arith

  now_none : (n : ℕ) → object s.held n ≡ None → now n ≡ None
  now_none n none = whole_found s.units s.held s.held.objects n ∙ ap (option_map (whole_object s)) none

  kept_none : (n : ℕ) → object s.held n ≡ None → kept d.objects n ≡ None
  kept_none n none = nothing_off s.held d n is.follows (ap image_header_in none)

  begun : AreEnsured s d [] s d
  begun = record {
    units = refl;
    objects = sym (unmarked s.held.objects numbers_from);
    raised = refl;
    ceiling = is.ceiling;
    follows = is.follows;
    each = each;
    made = tt;
  }
    where
      each : (n : ℕ) → kept d.objects n ≡ cond (is_ensured s.held [] n) (now n) (kept d.objects n)
      each zero = kept_none 0 is.numbered.none ∙ sym (none_both (nat_le 0 0 || false) (now 0) (kept d.objects 0) (now_none 0 is.numbered.none) (kept_none 0 is.numbered.none))
      each (suc n) = sym (ap (λ b. cond (b || false) (now (suc n)) (kept d.objects (suc n))) (beyond (suc n) 0 (omega arith)))

  -- ---- one object after another

  runs : (os gone rest : List Object) (t : State) (e : Durable) → s.held.objects ≡ gone ++ (os ++ rest) → AreEnsured s d gone t e → (u : State) × AreEnsured s d (gone ++ os) u (closed e t os)
  runs [] gone rest t e all c = (t, subst (λ (xs : List Object). AreEnsured s d xs t e) (sym (append-nil gone)) c)
  runs (o ∷ os) gone rest t e all c =
      let u = done t 0 (Ensured o.number.0) in
      let f = durable_after (forced_by t 0 (Ensured o.number.0)) e u in
      let next = one_more s d is gone (os ++ rest) o all t e c law in
      let more = runs os (gone ++ o ∷ []) rest u f (all ∙ sym (append_assoc gone (o ∷ []) (os ++ rest))) next in
      (more.0, subst (λ (xs : List Object). AreEnsured s d xs more.0 (closed e t (o ∷ os))) (append_assoc gone (o ∷ []) os) more.1)

  pub ensured_by : (gone rest : List Object) → s.held.objects ≡ gone ++ rest → (u : State) × AreEnsured s d gone u (closed d s gone)
  ensured_by gone rest all = runs gone [] rest s d all begun

  -- ---- the parts of each number

  -- those that are to be kept where it is ensured, and else those that were
  pub parts_closed : (gone rest : List Object) → s.held.objects ≡ gone ++ rest → (n : ℕ) → parts_at (closed d s gone) n ≡ cond (is_ensured s.held gone n) (parts_at (closing s.units s.held) n) (parts_at d n)
  parts_closed gone rest all n = by (is_ensured s.held gone n) (c.each n)
    where
      c : AreEnsured s d gone (ensured_by gone rest all).0 (closed d s gone)
      c = (ensured_by gone rest all).1

      by : (b : Bool) → kept (closed d s gone).objects n ≡ cond b (now n) (kept d.objects n) → parts_at (closed d s gone) n ≡ cond b (parts_at (closing s.units s.held) n) (parts_at d n)
      by true same = λ i. cond (n == ceiling_key) (ceiling_parts (c.ceiling i)) (parts_in (same i))
      by false same = λ i. cond (n == ceiling_key) (ceiling_parts ((c.ceiling ∙ sym is.ceiling) i)) (parts_in (same i))

  page_closed : (gone rest : List Object) → s.held.objects ≡ gone ++ rest → (key : Key) → cond (is_ensured s.held gone key.object) (page_of (closing s.units s.held) key) (page_of d key) ≡ page_of (closed d s gone) key
  page_closed gone rest all key = by (is_ensured s.held gone key.object) (parts_closed gone rest all key.object)
    where
      by : (b : Bool) → parts_at (closed d s gone) key.object ≡ cond b (parts_at (closing s.units s.held) key.object) (parts_at d key.object) → cond b (page_of (closing s.units s.held) key) (page_of d key) ≡ page_of (closed d s gone) key
      by true same = ap (λ (cs : List Change). wanted_at cs key) (sym same)
      by false same = ap (λ (cs : List Change). wanted_at cs key) (sym same)

  -- no part of number 0 is there
  none_at_zero : (gone rest : List Object) → s.held.objects ≡ gone ++ rest → (key : Key) → key.object ≡ 0 → page_of (closed d s gone) key ≡ None
  none_at_zero gone rest all key at =
      ap (λ (n : ℕ). wanted_at (parts_at (closed d s gone) n) key) at
      ∙ ap (λ (x : Option Stored). wanted_at (parts_in x) key)
      ((ensured_by gone rest all).1.each 0 ∙ none_both (is_ensured s.held gone 0) (now 0) (kept d.objects 0) (now_none 0 is.numbered.none) (kept_none 0 is.numbered.none))

  -- after the first objects each page of a number from 1 on is the one that is durable
  pub page_after : (m n : Content) (gone rest : List Object) → Represents m d → s.held.objects ≡ gone ++ rest → IsAfter m (closing s.units s.held) s.held gone n
      → (key : Key) → 1 ≤ key.object → key.part < parts_end → get n key ≡ page_of (closed d s gone) key
  page_after m n gone rest stands all behind key from near = behind.each key from near ∙ held (is_ensured s.held gone key.object) ∙ page_closed gone rest all key
    where
      held : (b : Bool) → cond b (page_of (closing s.units s.held) key) (get m key) ≡ cond b (page_of (closing s.units s.held) key) (page_of d key)
      held true = refl
      held false = stands.each key near

  pub represents_after : (m n : Content) (gone rest : List Object) → Represents m d → NameObjects (keys_of n) → s.held.objects ≡ gone ++ rest → IsAfter m (closing s.units s.held) s.held gone n → Represents n (closed d s gone)
  represents_after m n gone rest stands named all behind = record { each = λ key near. by key near key.object refl }
    where
      unnamed : (key : Key) → key.object ≡ 0 → is_some (get n key) ≡ true → ⊥
      unnamed key at there = let low = named key (sym (pages_held (keys_of n) n refl key) ∙ there) in omega (arith, low, at)

      by : (key : Key) → key.part < parts_end → (k : ℕ) → key.object ≡ k → get n key ≡ page_of (closed d s gone) key
      by key near zero at = none_of (get n key) (unnamed key at) ∙ sym (none_at_zero gone rest all key at)
      by key near (suc k) at = page_after m n gone rest stands all behind key (omega (arith, at)) near

  -- ---- all objects

  module _ (u : State) (e : Durable) (first : Object) (more : List Object) (whole_list : s.held.objects ≡ first ∷ more) (c : AreEnsured s d (first ∷ more) u e) where
    abbrev last : ℕ
    last = last_object_number (first ∷ more)

    abbrev forces : List Forced
    forces = c.made.0

    abbrev old : List Stored
    old = c.made.1.0

    low : (x : Object) → object s.held x.number.0 ≡ Some x → x.number.0 ≤ last
    low x found =
        found_all (λ o. o.number.0 ≤ last) s.held.objects x.number.0 x
        (All-from_recursion (λ o. o.number.0 ≤ last) s.held.objects
        (subst (λ (n : ℕ). AllByRecursion (λ o. o.number.0 ≤ n) s.held.objects) (ap last_object_number whole_list) (up_to_last s.held.objects (sorted_by s.held.objects is.numbered.rising))))
        found

    rising : NumbersRise u.held
    rising = subst (λ (ns : List ℕ). IsStrictlyIncreasing ns) (sym (ap (map object_number) c.objects ∙ marked_numbers last s.held.objects)) is.numbered.rising

    module _ (x : Object) (found : object s.held x.number.0 ≡ Some x) where
      on : (marked last x).on_disk ≡ true
      on = or_true x.on_disk _ (within x.number.0 last (low x found))

      made_one : kept e.objects x.number.0 ≡ Some (kept_after forces u (kept old x.number.0) (marked last x))
      made_one =
          ap (λ (xs : List Stored). kept xs x.number.0) c.made.1.1
          ∙ kept_after_step forces (record { ceiling = 0; objects = old }) u x.number.0 rising
          ∙ ap (kept_one forces u old) (found_marked s u last x.number.0 c.objects ∙ ap (option_map (marked last)) found)
          ∙ ap (λ b. cond b (Some (kept_after forces u (kept old x.number.0) (marked last x))) None) on

      whole_one : kept e.objects x.number.0 ≡ Some (whole_object s x)
      whole_one =
          c.each x.number.0
          ∙ ap (λ b. cond (b || list_any (λ o. is_that_number x.number.0 (journal_ahead s.held o.number.0)) (first ∷ more)) (now x.number.0) (kept d.objects x.number.0)) (within x.number.0 last (low x found))
          ∙ whole_found s.units s.held s.held.objects x.number.0 ∙ ap (option_map (whole_object s)) found

      one : kept_by_force forces u old (marked last x) ≡ whole_object s x ∷ []
      one =
          ap (λ b. cond b (kept_after forces u (kept old x.number.0) (marked last x) ∷ []) []) on
          ∙ ap (λ (y : Stored). y ∷ []) (same_stored _ (whole_object s x) (sym made_one ∙ whole_one))

    each_one : All (λ x. kept_by_force forces u old (marked last x) ≡ whole_object s x ∷ []) s.held.objects
    each_one = all_found (λ x. kept_by_force forces u old (marked last x) ≡ whole_object s x ∷ []) s.held is.numbered.rising (λ x found. one x found)

    all_wholes : (os : List Object) → All (λ x. kept_by_force forces u old (marked last x) ≡ whole_object s x ∷ []) os → flat_map (kept_by_force forces u old) (map (marked last) os) ≡ map (whole_object s) os
    all_wholes [] each = refl
    all_wholes (x ∷ os) each =
        (λ i. All-head (λ y. kept_by_force forces u old (marked last y) ≡ whole_object s y ∷ []) x os each i ++ all_wholes os (All-tail (λ y. kept_by_force forces u old (marked last y) ≡ whole_object s y ∷ []) x os each) i)

    made_all : e ≡ closing s.units s.held
    made_all = λ i. record {
      ceiling = c.ceiling i;
      objects = (c.made.1.1 ∙ ap (flat_map (kept_by_force forces u old)) c.objects ∙ all_wholes s.held.objects each_one) i;
    }

  pub all_closed : closed d s s.held.objects ≡ closing s.units s.held
  all_closed = by s.held.objects refl
    where
      by : (os : List Object) → s.held.objects ≡ os → closed d s os ≡ closing s.units s.held
      by [] none = λ i. record {
        ceiling = is.ceiling i;
        objects = (nothing_there d.objects (λ n. kept_none n (ap (λ (os : List Object). object_in os n) none)) ∙ sym (ap (map (whole_object s)) none)) i;
      }
      by (o ∷ os) all =
          let c = ensured_by (o ∷ os) [] (all ∙ sym (append-nil (o ∷ os))) in
          made_all c.0 (closed d s (o ∷ os)) o os all c.1
