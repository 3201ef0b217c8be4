-- What a run leaves can restart, and the first of its objects are ensured each with its journal space.
use Rattle.std.proofs.Common.{◌≡◌, ◌∙◌, ◌⊎◌, ◌<◌, ◌≤◌, ◌==◌, ℕ, Bool, true, false, cond, inl, inr, List, [], ◌∷◌, ◌++◌, Option, Some, None, map, refl, sym, ap, subst, arith}
use Rattle.std.proofs.lemmas.Bool.Decides.{nat_tests}
use Rattle.std.proofs.lemmas.Map.Keys.{sorted_from_strictly_increasing, sorted_head, sorted_tail}
use Rattle.std.specs.List.{flat_map, list_any}
use Rattle.std.specs.List.Sorted.{IsStrictlySortedBy}
use Rattle.std.specs.Option.{option_map}
use Rattle.std.specs.Ordering.{nat_cmp}
use Rattle.std.specs.Prelude.{◌&&◌, ◌||◌, All, nat_le, nat_lt}
use Rattle.std.specs.declared.cmp.Ordering.TheVariants.{Less}
use Rattle.s38_base.specs.Limits.{body_limit}
use Rattle.s38_checkpoint.specs.Closing.{closing}
use Rattle.s38_checkpoint.specs.Ensuring.{is_ensured, journal_above, journal_ahead}
use Rattle.s38_checkpoint.specs.Passing.{last_object_number}
use Rattle.s38_laws_units.specs.Right.{IsUnused}
use Rattle.s38_commits.specs.Units.{UnitMap}
use Rattle.s38_laws_commits.proofs.LinkLaws.{port_journal_there}
use Rattle.s38_durable_state.specs.Durable.{Durable, kept, whole_stored}
use Rattle.s38_durable_state.specs.Following.{object_number}
use Rattle.s38_image.specs.Fitting.{IsImage}
use Rattle.s38_image.specs.declared.stored.Stored.{Stored}
use Rattle.s38_image_writer.specs.Parts.{CanSettle}
use Rattle.s38_laws_flush.proofs.durable.FoundLaws.{found_all}
use Rattle.s38_laws_flush.specs.durable.Kept.{AreImages, IsKeptOf}
use Rattle.s38_laws_images.specs.openings.Bodies.{HoldsBody}
use Rattle.s38_laws_flush.specs.puts.Trails.{IsTrailOf}
use Rattle.s38_laws_images.proofs.readable.LastLaws.{whole_again}
use Rattle.s38_laws_images.specs.readable.Readable.{IsReadable}
use Rattle.s38_rules.proofs.ChargeLaws.{found_number}
use Rattle.s38_rules.specs.state.Held.{Held, has_number, is_on_disk, object, object_in}
use Rattle.s38_rules.specs.state.Journaling.{data_port, data_port_in, is_journal, is_that_number, journal_for, journal_named, journal_of_port}
use Rattle.s38_rules.specs.state.Parts.{data_part, part_at, part_in, port_part}
use Rattle.s38_rules.specs.state.State.{State}
use Rattle.s38_rules.specs.declared.data_body.DataBody.{DataBody}
use Rattle.s38_rules.specs.declared.object.Object.{Object}
use Rattle.s38_laws_state.specs.Order.{AreInOrder}
use Rattle.s38_laws_recovery.specs.Ending.{IsWithJournals, mixed}
use Rattle.s38_laws_recovery.specs.Restartable.{AreReady, IsRestartable}
use Rattle.s38_laws_recovery.specs.Restarting.{CanRestart}
use Rattle.s38_laws_recovery.proofs.KindLaws.{apart_kinds, data_at_kind, journal_at_kind}
use Rattle.s38_laws_recovery.proofs.MixLaws.{mixed_can}
use Rattle.s38_laws_recovery.proofs.NumberLaws.{Above, itself, number_same}

-- ---- all objects

each_alone : {A B : Type 0} (f : A → B) (xs : List A) → flat_map (λ x. f x ∷ []) xs ≡ map f xs
each_alone f [] = refl
each_alone f (x ∷ xs) = ap (λ (ys : List _). f x ∷ ys) (each_alone f xs)

all_mixed : (units : UnitMap) (h : Held) (d : Durable) → mixed (λ n. true) units h d ≡ closing units h
all_mixed units h d = ap (λ (xs : List Stored). let v : Durable = record { ceiling = h.ceiling; objects = xs } in v) (each_alone (whole_stored units h) h.objects)

pub closing_found : (units : UnitMap) (h : Held) (n : ℕ) → kept (closing units h).objects n ≡ option_map (whole_stored units h) (object h n)
closing_found units h n = by h.objects
  where
    by : (os : List Object) → kept (map (whole_stored units h) os) n ≡ option_map (whole_stored units h) (object_in os n)
    by [] = refl
    by (o ∷ os) = one (has_number n o) (by os)
      where
        one : (b : Bool) → kept (map (whole_stored units h) os) n ≡ option_map (whole_stored units h) (object_in os n)
            → cond b (Some (whole_stored units h o)) (kept (map (whole_stored units h) os) n) ≡ option_map (whole_stored units h) (cond b (Some o) (object_in os n))
        one true rest = refl
        one false rest = rest

pub closing_can : (s : State) (d : Durable) → IsKeptOf s d → IsTrailOf s d → AreInOrder s → IsRestartable s d → AreImages (closing s.units s.held) → CanRestart (closing s.units s.held)
closing_can s d is trail order ready images =
    let same = all_mixed s.units s.held d in
    subst CanRestart same (mixed_can s d is trail ready (λ n. true) (λ n journal on to. refl) order (subst AreImages (sym same) images))

-- each can be read again
pub closing_images : (s : State) → All (HoldsBody body_limit) s.held.objects → All (λ o. CanSettle s.units o.number.0 o.body) s.held.objects → All IsReadable s.held.objects → AreImages (closing s.units s.held)
closing_images s bodies settles again n x at = by (object s.held n) refl (sym (closing_found s.units s.held n) ∙ at)
  where
    same : (y : Stored) → Some y ≡ Some x → y ≡ x
    same y e = cc

    by : (r : Option Object) → object s.held n ≡ r → option_map (whole_stored s.units s.held) r ≡ Some x → IsImage body_limit x
    by None there e = absurd (let g : None ≡ Some x = e in cc)
    by (Some o) there e =
        subst (IsImage body_limit) (same (whole_stored s.units s.held o) e)
        (whole_again s o bodies (found_all (λ y. CanSettle s.units y.number.0 y.body) s.held.objects n o settles there) (found_all IsReadable s.held.objects n o again there))

-- ---- the first objects

found_above : (k n : ℕ) (os : List Object) (o : Object) → Above k (map object_number os) → object_in os n ≡ Some o → k < n
found_above k n [] o above at = absurd (let e : None ≡ Some o = at in cc)
found_above k n (x ∷ os) o above at = by (x.number.0 == n) refl (found_above k n os o above.1) at
  where
    by : (b : Bool) → (x.number.0 == n) ≡ b → (object_in os n ≡ Some o → k < n) → cond b (Some x) (object_in os n) ≡ Some o → k < n
    by true is rest e = let less : nat_cmp k x.number.0 ≡ Less = above.0 in grind (arith, nat_tests)
    by false is rest e = rest e

-- each object after them has a greater number
last_below : (gone rest : List Object) (n : ℕ) (o : Object) → IsStrictlySortedBy nat_cmp (map object_number (gone ++ rest)) → object_in rest n ≡ Some o → 1 ≤ n → last_object_number gone < n
last_below [] rest n o order at first = omega (arith, first)
last_below (g ∷ []) rest n o order at first = found_above g.number.0 n rest o (sorted_head nat_cmp g.number.0 (map object_number rest) order) at
last_below (g ∷ g2 ∷ gone) rest n o order at first = last_below (g2 ∷ gone) rest n o (sorted_tail nat_cmp g.number.0 (map object_number ((g2 ∷ gone) ++ rest)) order) at first

found_either : (gone rest : List Object) (n : ℕ) (o : Object) → object_in (gone ++ rest) n ≡ Some o → (object_in gone n ≡ Some o) ⊎ (object_in rest n ≡ Some o)
found_either [] rest n o at = inr at
found_either (g ∷ gone) rest n o at = by (has_number n g) (found_either gone rest n o) at
  where
    by : (b : Bool) → (object_in (gone ++ rest) n ≡ Some o → (object_in gone n ≡ Some o) ⊎ (object_in rest n ≡ Some o)) → cond b (Some g) (object_in (gone ++ rest) n) ≡ Some o
        → (cond b (Some g) (object_in gone n) ≡ Some o) ⊎ (object_in rest n ≡ Some o)
    by true more e = inl e
    by false more e = more e

any_found : (test : Object → Bool) (os : List Object) (n : ℕ) (o : Object) → object_in os n ≡ Some o → test o ≡ true → list_any test os ≡ true
any_found test [] n o at is = absurd (let e : None ≡ Some o = at in cc)
any_found test (x ∷ os) n o at is = by (has_number n x) (any_found test os n o) at
  where
    same : Some x ≡ Some o → x ≡ o
    same e = cc

    first : (b : Bool) → b ≡ true → (b || list_any test os) ≡ true
    first true e = refl
    first false e = absurd (let g : false ≡ true = e in cc)

    later : (b : Bool) → list_any test os ≡ true → (b || list_any test os) ≡ true
    later true e = refl
    later false e = e

    by : (b : Bool) → (object_in os n ≡ Some o → test o ≡ true → list_any test os ≡ true) → cond b (Some x) (object_in os n) ≡ Some o → (test x || list_any test os) ≡ true
    by true rest e = first (test x) (ap test (same e) ∙ is)
    by false rest e = later (test x) (rest e is)

module _ (h : Held) (ready : AreReady h) (unused : IsUnused h) where
  -- what is kept with a data space is a journal space
  ahead_journal : (k n : ℕ) → is_that_number n (journal_ahead h k) ≡ true → is_journal h n ≡ true
  ahead_journal k n is = by (journal_for h k) refl is
    where
      named : (i : ℕ) (b : Bool) → journal_for h k ≡ Some i → is_that_number n (cond b (Some i) None) ≡ true → is_journal h n ≡ true
      named i true to e = subst (λ (m : ℕ). is_journal h m ≡ true) (sym (number_same n i e)) (port_journal_there h (data_port h k) i to)
      named i false to e = absurd (let g : false ≡ true = e in cc)

      by : (r : Option ℕ) → journal_for h k ≡ r → is_that_number n (journal_above h k r) ≡ true → is_journal h n ≡ true
      by None to e = absurd (let g : false ≡ true = e in cc)
      by (Some i) to e = named i (nat_lt k i && is_on_disk h i) to e

  any_ahead : (os : List Object) (n : ℕ) → list_any (λ o. is_that_number n (journal_ahead h o.number.0)) os ≡ true → is_journal h n ≡ true
  any_ahead [] n is = absurd (let e : false ≡ true = is in cc)
  any_ahead (o ∷ os) n is = by (any_ahead os n) (is_that_number n (journal_ahead h o.number.0)) refl is
    where
      by : (list_any (λ x. is_that_number n (journal_ahead h x.number.0)) os ≡ true → is_journal h n ≡ true) → (b : Bool) → is_that_number n (journal_ahead h o.number.0) ≡ b
          → (b || list_any (λ x. is_that_number n (journal_ahead h x.number.0)) os) ≡ true → is_journal h n ≡ true
      by rest true own e = ahead_journal o.number.0 n own
      by rest false own e = rest e

  -- what is journaled is a data space that is there
  data_there : (n i : ℕ) → journal_for h n ≡ Some i → (b : DataBody) × (part_at data_part h n ≡ Some b)
  data_there n i to = by (part_at data_part h n) refl
    where
      by : (r : Option DataBody) → part_at data_part h n ≡ r → (b : DataBody) × (part_at data_part h n ≡ Some b)
      by None at = absurd (let e : None ≡ Some i = sym (ap (λ r. journal_of_port h (data_port_in r)) at ∙ ap (λ r. journal_named h (part_in port_part r)) unused.none) ∙ to in cc)
      by (Some b) at = (b, at)

  some_object : (n : ℕ) (b : DataBody) → part_at data_part h n ≡ Some b → (o : Object) × (object h n ≡ Some o)
  some_object n b at = by (object h n) refl at
    where
      by : (r : Option Object) → object h n ≡ r → part_in data_part r ≡ Some b → (o : Object) × (object h n ≡ Some o)
      by None found_at e = absurd (let g : None ≡ Some b = e in cc)
      by (Some o) found_at e = (o, found_at)

  first_number : (n : ℕ) (o : Object) → object h n ≡ Some o → 1 ≤ n
  first_number n o at = by (n == 0) refl
    where
      by : (c : Bool) → (n == 0) ≡ c → 1 ≤ n
      by true is = absurd (let e : None ≡ Some o = sym (ap (object h) (number_same n 0 is) ∙ unused.none) ∙ at in cc)
      by false off = grind (arith, nat_tests)

  module _ (gone rest : List Object) (all : h.objects ≡ gone ++ rest) where
    abbrev ensured : ℕ → Bool
    ensured n = is_ensured h gone n

    -- a data space that is ensured is one of the first objects
    is_gone : (n : ℕ) (o : Object) → object h n ≡ Some o → nat_le n (last_object_number gone) ≡ true → object_in gone n ≡ Some o
    is_gone n o at low = by (found_either gone rest n o (sym (ap (λ (os : List Object). object_in os n) all) ∙ at))
      where
        order : IsStrictlySortedBy nat_cmp (map object_number (gone ++ rest))
        order = subst (λ (os : List Object). IsStrictlySortedBy nat_cmp (map object_number os)) all (sorted_from_strictly_increasing (map object_number h.objects) ready.linked.rising)

        by : (object_in gone n ≡ Some o) ⊎ (object_in rest n ≡ Some o) → object_in gone n ≡ Some o
        by (inl e) = e
        by (inr e) = absurd (let less = last_below gone rest n o order e (first_number n o at) in let no : last_object_number gone < n → ⊥ = λ l. grind (arith, nat_tests) in no less)

    later : (a : Bool) {b : Bool} → b ≡ true → (a || b) ≡ true
    later true e = refl
    later false e = e

    earlier : (a b : Bool) → a ≡ true → (a || b) ≡ true
    earlier true b e = refl
    earlier false b e = absurd (let g : false ≡ true = e in cc)

    pub with_journals : IsWithJournals ensured h
    with_journals n i on to =
        let b = data_there n i to in
        let o = some_object n b.0 b.1 in
        by o (nat_le n (last_object_number gone)) refl on
      where
        no_journal : list_any (λ o. is_that_number n (journal_ahead h o.number.0)) gone ≡ true → ⊥
        no_journal is = apart_kinds h n (data_at_kind h n (data_there n i to).0 (data_there n i to).1) (journal_at_kind h n (any_ahead gone n is))

        on_disk : is_on_disk h i ≡ true
        on_disk = ready.linked.journal_disk n i to

        -- its journal space is kept with it, or before it
        ahead : (o : Object) → object_in gone n ≡ Some o → o.number.0 ≡ n → nat_le n (last_object_number gone) ≡ true → (c : Bool) → nat_lt n i ≡ c → ensured i ≡ true
        ahead o at number low true less =
            let own : journal_ahead h o.number.0 ≡ Some i =
            ap (journal_ahead h) number ∙ ap (journal_above h n) to ∙ ap (λ b. cond (b && is_on_disk h i) (Some i) None) less ∙ ap (λ b. cond (true && b) (Some i) None) on_disk in
            later (nat_le i (last_object_number gone)) (any_found (λ x. is_that_number i (journal_ahead h x.number.0)) gone n o at (ap (is_that_number i) own ∙ itself i))
        ahead o at number low false more = earlier (nat_le i (last_object_number gone)) _ (grind (arith, nat_tests))

        by : (o : (x : Object) × (object h n ≡ Some x)) → (c : Bool) → nat_le n (last_object_number gone) ≡ c → (c || list_any (λ x. is_that_number n (journal_ahead h x.number.0)) gone) ≡ true → ensured i ≡ true
        by o true low e = ahead o.0 (is_gone n o.0 o.1 low) (found_number n o.0 h.objects o.1) low (nat_lt n i) refl
        by o false low e = absurd (no_journal e)
