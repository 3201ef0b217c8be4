-- What is durable after each object that is ensured: the current object and its journal space, and what was durable of
-- the others.
use Rattle.std.proofs.Common.{◌≡◌, ◌∙◌, ℕ, zero, suc, ◌<◌, ◌≤◌, ◌==◌, Bool, true, false, cond, List, [], ◌∷◌, ◌++◌, map, refl, sym, ap, subst, arith}
use Rattle.std.proofs.lemmas.Bool.Decides.{nat_tests}
use Rattle.std.proofs.lemmas.List.Folds.{list_any-append}
use Rattle.std.specs.List.{AllByRecursion, flat_map, list_any}
use Rattle.std.specs.List.Sorted.{IsStrictlyIncreasing}
use Rattle.std.specs.Option.{option_map}
use Rattle.std.specs.Prelude.{◌||◌, ◌&&◌, None, Option, Some, nat_le, nat_lt}
use Rattle.s38_checkpoint.proofs.PassLaws.{AreSorted, above_next, below_next, last_below, last_more, none_between, sorted_by, sorted_front, up_to_last}
use Rattle.s38_checkpoint.specs.Closing.{kept_whole}
use Rattle.s38_checkpoint.specs.Ensuring.{is_ensured, journal_above, journal_ahead}
use Rattle.s38_checkpoint.specs.Passing.{last_object_number}
use Rattle.s38_durable_state.specs.Durable.{Durable, durable_after, followed_or_whole, kept, kept_after, kept_by_force, last_sequence_in, whole_object}
use Rattle.s38_durable_state.specs.Following.{Follows, NumbersRise, image_header_in, object_number}
use Rattle.s38_image.specs.Settled.{committed_image}
use Rattle.s38_image.specs.declared.stored.Stored.{Stored}
use Rattle.s38_laws_flush.proofs.durable.FoundLaws.{kept_after_step, kept_one}
use Rattle.s38_laws_flush.specs.durable.Kept.{IsKeptOf}
use Rattle.s38_rules.proofs.ChargeLaws.{found_number}
use Rattle.s38_rules.specs.families.Changes.{Ensured, done}
use Rattle.s38_rules.specs.store.Forcing.{Forced, forced_by, is_whole, whole_if}
use Rattle.s38_rules.specs.state.Held.{Held, change_in, disk_in, is_on_disk, kept_on_disk, object, object_in}
use Rattle.s38_rules.specs.state.Journaling.{is_that_number, journal_for}
use Rattle.s38_rules.specs.state.State.{State}
use Rattle.s38_rules.specs.declared.object.Object.{Object}
use Rattle.s38_laws_checkpoint.proofs.prefix.BodyLaws.{SameBodies, body_in, same_journal, same_last}
use Rattle.s38_laws_checkpoint.proofs.prefix.FollowLaws.{kept_still, nothing_off}
use Rattle.s38_laws_checkpoint.proofs.prefix.MarkLaws.{found_after, marked, marked_body, marked_found, marked_more, marked_numbers, marked_same, whole_found}
use Rattle.s38_laws_checkpoint.proofs.prefix.TestLaws.{above_by, at_most, none_both, or_false, or_none, or_true, same_by, turned, within}

no_yes : {b : Bool} → b ≡ true → b ≡ false → ⊥
no_yes t f = cc

-- ---- the journal space of a data space

-- it is forced whole
forced_number : (n : ℕ) (r : Option ℕ) → list_any (is_whole n) (whole_if r) ≡ is_that_number n r
forced_number n None = refl
forced_number n (Some j) = or_none (j == n) ∙ turned j n

-- and is kept with a data space where it is on disk
ahead_tells : (h : Held) (k n : ℕ) (r : Option ℕ) → is_that_number n (journal_above h k r) ≡ true → (is_that_number n r ≡ true) × (is_on_disk h n ≡ true)
ahead_tells h k n None e = absurd (cc)
ahead_tells h k n (Some j) e = by (nat_lt k j) (is_on_disk h j) refl e
  where
    by : (a b : Bool) → is_on_disk h j ≡ b → is_that_number n (cond (a && b) (Some j) None) ≡ true → ((n == j) ≡ true) × (is_on_disk h n ≡ true)
    by true true on e = (e, ap (is_on_disk h) (same_by n j e) ∙ on)
    by true false on e = absurd (cc)
    by false b on e = absurd (cc)

-- one above it that is not kept with it is not on disk
off_above : (h : Held) (k n : ℕ) (r : Option ℕ) → k < n → is_that_number n r ≡ true → is_that_number n (journal_above h k r) ≡ false → is_on_disk h n ≡ false
off_above h k n None less e not = absurd (cc)
off_above h k n (Some j) less e not = by (is_on_disk h j) refl (ap (λ b. is_that_number n (cond (b && is_on_disk h j) (Some j) None)) (sym (below k j (omega (arith, less, same_by n j e)))) ∙ not)
  where
    below : (a b : ℕ) → a < b → nat_lt a b ≡ true
    below a b low = grind (arith, nat_tests)

    by : (b : Bool) → is_on_disk h j ≡ b → is_that_number n (cond b (Some j) None) ≡ false → is_on_disk h n ≡ false
    by true on not = absurd (no_yes e not)
    by false off not = ap (is_on_disk h) (same_by n j e) ∙ off

-- ---- after these objects

-- what is durable was made by a step, where some object was ensured
abbrev pub IsMade : List Object → State → Durable → Type 0
IsMade [] t e = Unit {0}
IsMade (o ∷ os) t e = (all : List Forced) × ((old : List Stored) × (e.objects ≡ flat_map (kept_by_force all t old) t.held.objects))

-- the objects up to the last one of these are on disk; of each number that is ensured what is whole is durable, and of the
-- others what was
pub record AreEnsured (s : State) (d : Durable) (gone : List Object) (t : State) (e : Durable) : Type 0 where
  pub units : t.units ≡ s.units
  pub objects : t.held.objects ≡ map (marked (last_object_number gone)) s.held.objects
  pub raised : t.held.ceiling ≡ s.held.ceiling
  pub ceiling : e.ceiling ≡ s.held.ceiling
  pub follows : Follows t.held e
  pub each : (n : ℕ) → kept e.objects n ≡ cond (is_ensured s.held gone n) (kept (kept_whole s.units s.held) n) (kept d.objects n)
  pub made : IsMade gone t e

-- the laws of what is durable
abbrev pub FollowingLaw : Type 0
FollowingLaw = (all : List Forced) (d : Durable) (s : State) → NumbersRise s.held → Follows s.held (durable_after all d s)

-- objects are found as they are, or on disk
pub found_marked : (s t : State) (last n : ℕ) → t.held.objects ≡ map (marked last) s.held.objects → object t.held n ≡ option_map (marked last) (object s.held n)
found_marked s t last n same = ap (λ (os : List Object). object_in os n) same ∙ marked_found last s.held.objects n

pub bodies_marked : (s t : State) (last : ℕ) → t.held.objects ≡ map (marked last) s.held.objects → SameBodies s.held t.held
bodies_marked s t last same n = ap body_in (found_marked s t last n same) ∙ marked_body last (object s.held n)

-- each is whole as it was
pub whole_marked : (s t : State) (last : ℕ) (o : Object) → t.units ≡ s.units → t.held.objects ≡ map (marked last) s.held.objects → whole_object t (marked last o) ≡ whole_object s o
whole_marked s t last o units same =
    let bodies = bodies_marked s t last same in
    λ i. committed_image (units i) ((same_last s.held t.held bodies (journal_for t.held o.number.0) ∙ ap (last_sequence_in s.held) (same_journal s.held t.held bodies o.number.0)) i) o

-- ---- one more

module _ (s : State) (d : Durable) (is : IsKeptOf s d) (gone rest : List Object) (o : Object) (all : s.held.objects ≡ gone ++ o ∷ rest) (t : State) (e : Durable) (c : AreEnsured s d gone t e) where
  abbrev k : ℕ
  k = o.number.0

  abbrev last : ℕ
  last = last_object_number gone

  abbrev u : State
  u = done t 0 (Ensured k)

  abbrev forces : List Forced
  forces = forced_by t 0 (Ensured k)

  abbrev f : Durable
  f = durable_after forces e u

  sorted : AreSorted (gone ++ o ∷ rest)
  sorted = subst AreSorted all (sorted_by s.held.objects is.numbered.rising)

  low : AllByRecursion (λ x. x.number.0 < o.number.0) gone
  low = below_next gone rest o sorted

  found : object s.held k ≡ Some o
  found = ap (λ (os : List Object). object_in os k) all ∙ found_after gone rest o low

  -- its number is none that no object has
  from : 1 ≤ k
  from = by k refl
    where
      nothing : object s.held 0 ≡ Some o → ⊥
      nothing e = let h : None ≡ Some o = sym is.numbered.none ∙ e in cc

      by : (j : ℕ) → k ≡ j → 1 ≤ j
      by zero e = absurd (nothing (subst (λ (j : ℕ). object s.held j ≡ Some o) e found))
      by (suc j) e = omega arith

  above : last < k
  above = last_below gone k from low

  -- ---- the objects after it

  objects : u.held.objects ≡ map (marked k) s.held.objects
  objects =
      ap (λ (os : List Object). change_in os k kept_on_disk) (c.objects ∙ ap (map (marked last)) all)
      ∙ marked_more last gone rest o above (up_to_last gone (sorted_front gone (o ∷ rest) sorted)) (above_next gone rest o sorted)
      ∙ ap (map (marked k)) (sym all)

  rising : NumbersRise u.held
  rising = subst (λ (ns : List ℕ). IsStrictlyIncreasing ns) (sym (ap (map object_number) objects ∙ marked_numbers k s.held.objects)) is.numbered.rising

  at : (n : ℕ) → object u.held n ≡ option_map (marked k) (object s.held n)
  at n = found_marked s u k n objects

  -- no object is between
  same_side : (n : ℕ) (q : Object) → object s.held n ≡ Some q → (k == n) ≡ false → nat_le n k ≡ nat_le n last
  same_side n q there other = by (nat_le n k) refl (nat_le n last) refl
    where
      between : last < n → n < k → ⊥
      between from until =
          let h : None ≡ Some (whole_object s q) =
          sym (none_between s.units s.held gone rest o n sorted (sorted_front gone (o ∷ rest) sorted) from until)
          ∙ whole_found s.units s.held (gone ++ o ∷ rest) n
          ∙ ap (option_map (whole_object s)) (ap (λ (os : List Object). object_in os n) (sym all) ∙ there) in
          cc

      less : (a b : ℕ) → nat_le a b ≡ true → (b == a) ≡ false → a < b
      less a b le not = grind (arith, nat_tests)

      by : (b : Bool) → nat_le n k ≡ b → (a : Bool) → nat_le n last ≡ a → b ≡ a
      by true p true q = refl
      by false p false q = refl
      by true p false q = absurd (between (above_by n last q) (less n k p other))
      by false p true q = absurd (let high = above_by n k p in let low = at_most n last q in omega (arith, high, low, above))

  -- ---- what is ensured after it

  abbrev one : ℕ → Object → Bool
  one n x = is_that_number n (journal_ahead s.held x.number.0)

  more : (n : ℕ) → is_ensured s.held (gone ++ o ∷ []) n ≡ nat_le n k || (list_any (one n) gone || one n o)
  more n =
      λ i. nat_le n (last_more gone o i) || (list_any-append (one n) gone (o ∷ []) ∙ ap (λ b. list_any (one n) gone || b) (or_none (one n o))) i

  -- ---- what is forced

  forces_are : (n : ℕ) → list_any (is_whole n) forces ≡ (k == n) || is_that_number n (journal_for s.held k)
  forces_are n =
      ap (λ b. (k == n) || b)
      (forced_number n (journal_for t.held k) ∙ ap (is_that_number n) (same_journal s.held t.held (bodies_marked s t last c.objects) k))

  -- ---- one number

  abbrev now : ℕ → Option Stored
  now n = kept (kept_whole s.units s.held) n

  module _ (n : ℕ) (q : Object) (there : object s.held n ≡ Some q) where
    number : q.number.0 ≡ n
    number = found_number n q s.held.objects there

    now_whole : now n ≡ Some (whole_object s q)
    now_whole = whole_found s.units s.held s.held.objects n ∙ ap (option_map (whole_object s)) there

    here : object u.held n ≡ Some (marked k q)
    here = at n ∙ ap (option_map (marked k)) there

    before : object t.held n ≡ Some (marked last q)
    before = found_marked s t last n c.objects ∙ ap (option_map (marked last)) there

    kept_made : kept f.objects n ≡ kept_one forces u e.objects (Some (marked k q))
    kept_made = kept_after_step forces e u n rising ∙ ap (kept_one forces u e.objects) here

    kept_anew : (marked k q).on_disk ≡ true → list_any (is_whole n) forces ≡ true → kept f.objects n ≡ Some (whole_object s q)
    kept_anew on forced =
        kept_made
        ∙ ap (λ b. cond b (Some (kept_after forces u (kept e.objects q.number.0) (marked k q))) None) on
        ∙ ap (λ b. Some (cond b (whole_object u (marked k q)) (followed_or_whole u (marked k q) (kept e.objects q.number.0)))) (ap (λ (m : ℕ). list_any (is_whole m) forces) number ∙ forced)
        ∙ ap (λ (x : Stored). Some x) (whole_marked s u k q c.units objects)

    kept_off : (marked k q).on_disk ≡ false → kept f.objects n ≡ None
    kept_off off = kept_made ∙ ap (λ b. cond b (Some (kept_after forces u (kept e.objects q.number.0) (marked k q))) None) off

    up_to : nat_le n k ≡ true → (marked k q).on_disk ≡ true
    up_to le = or_true q.on_disk _ (ap (λ (m : ℕ). nat_le m k) number ∙ le)

    -- it is forced and above the object
    above_off : (k == n) ≡ false → nat_le n k ≡ false → q.on_disk ≡ false → kept f.objects n ≡ kept e.objects n
    above_off other high off =
        let side = same_side n q there other in
        kept_off (or_false q.on_disk _ off (ap (λ (m : ℕ). nat_le m k) number ∙ high))
        ∙ sym (nothing_off t.held e n c.follows
        (ap image_header_in before ∙ rw (or_false q.on_disk _ off (ap (λ (m : ℕ). nat_le m last) number ∙ sym side ∙ high)) refl))

    -- it is forced and no journal space that is kept with it
    stays_forced : (k == n) ≡ false → one n o ≡ false → is_that_number n (journal_for s.held k) ≡ true → kept f.objects n ≡ kept e.objects n
    stays_forced other not for = by (nat_le n k) refl
      where
        by : (b : Bool) → nat_le n k ≡ b → kept f.objects n ≡ kept e.objects n
        by true le =
            kept_anew (up_to le) (forces_are n ∙ or_true (k == n) _ for)
            ∙ sym (c.each n ∙ ap (λ b. cond (b || list_any (one n) gone) (now n) (kept d.objects n)) (sym (same_side n q there other) ∙ le) ∙ now_whole)
        by false high = above_off other high (sym (ap disk_in there) ∙ off_above s.held k n (journal_for s.held k) (above_by n k high) for not)

    stays : (k == n) ≡ false → one n o ≡ false → kept f.objects n ≡ kept e.objects n
    stays other not = by (is_that_number n (journal_for s.held k)) refl
      where
        by : (b : Bool) → is_that_number n (journal_for s.held k) ≡ b → kept f.objects n ≡ kept e.objects n
        by true for = stays_forced other not for
        by false for =
            kept_still forces t u e n rising c.follows (forces_are n ∙ or_false (k == n) _ other for)
            (here ∙ ap (λ (x : Object). Some x) (marked_same k last q (ap (λ (m : ℕ). nat_le m k) number ∙ same_side n q there other ∙ ap (λ (m : ℕ). nat_le m last) (sym number))) ∙ sym before)

    abbrev Wanted : Type 0
    Wanted = kept f.objects n ≡ cond (nat_le n k || (list_any (one n) gone || one n o)) (now n) (kept d.objects n)

    is_own : (k == n) ≡ true → Wanted
    is_own own =
        let le : nat_le n k ≡ true = within n k (let e = same_by k n own in omega (arith, e)) in
        kept_anew (up_to le) (forces_are n ∙ ap (λ b. b || is_that_number n (journal_for s.held k)) own)
        ∙ sym (ap (λ b. cond (b || (list_any (one n) gone || one n o)) (now n) (kept d.objects n)) le ∙ now_whole)

    is_ahead : one n o ≡ true → Wanted
    is_ahead ahead =
        let tells = ahead_tells s.held k n (journal_for s.held k) ahead in
        kept_anew (ap (λ b. b || nat_le q.number.0 k) (sym (ap disk_in there) ∙ tells.1)) (forces_are n ∙ or_true (k == n) _ tells.0)
        ∙ sym (ap (λ b. cond b (now n) (kept d.objects n)) (or_true (nat_le n k) _ (or_true (list_any (one n) gone) _ ahead)) ∙ now_whole)

    is_other : (k == n) ≡ false → one n o ≡ false → Wanted
    is_other other not =
        stays other not ∙ c.each n
        ∙ ap (λ b. cond b (now n) (kept d.objects n)) (λ i. sym (same_side n q there other) i || (sym (or_none (list_any (one n) gone)) ∙ ap (λ b. list_any (one n) gone || b) (sym not)) i)

    each_there : Wanted
    each_there = by (k == n) refl (one n o) refl
      where
        by : (a : Bool) → (k == n) ≡ a → (b : Bool) → one n o ≡ b → Wanted
        by true own b ahead = is_own own
        by false other true ahead = is_ahead ahead
        by false other false not = is_other other not

  each : (n : ℕ) → kept f.objects n ≡ cond (is_ensured s.held (gone ++ o ∷ []) n) (now n) (kept d.objects n)
  each n = by (object s.held n) refl ∙ ap (λ b. cond b (now n) (kept d.objects n)) (sym (more n))
    where
      by : (y : Option Object) → object s.held n ≡ y → kept f.objects n ≡ cond (nat_le n k || (list_any (one n) gone || one n o)) (now n) (kept d.objects n)
      by None none =
          kept_after_step forces e u n rising ∙ ap (kept_one forces u e.objects) (at n ∙ ap (option_map (marked k)) none)
          ∙ sym (none_both _ (now n) (kept d.objects n) (whole_found s.units s.held s.held.objects n ∙ ap (option_map (whole_object s)) none) (nothing_off s.held d n is.follows (ap image_header_in none)))
      by (Some q) there = each_there n q there

  made_some : (os : List Object) → IsMade (os ++ o ∷ []) u f
  made_some [] = (forces, (e.objects, refl))
  made_some (x ∷ os) = (forces, (e.objects, refl))

  pub one_more : FollowingLaw → AreEnsured s d (gone ++ o ∷ []) u f
  one_more law = record {
    units = c.units;
    objects = objects ∙ ap (λ (n : ℕ). map (marked n) s.held.objects) (sym (last_more gone o));
    raised = c.raised;
    ceiling = c.raised;
    follows = law forces e u rising;
    each = each;
    made = made_some gone;
  }
