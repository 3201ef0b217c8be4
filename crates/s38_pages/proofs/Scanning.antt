-- One home more is read.
use Rattle.std.proofs.Common.{◌≡◌, ◌&&◌, ℕ, ◌+◌, ◌<◌, ◌≤◌, Bool, true, false, not, cond, Option, Some, None, refl, sym, ◌∙◌, ap, subst, arith, ⊎_elim}
use Rattle.std.specs.Prelude.{is_none}
use Rattle.std.proofs.lemmas.Bool.{both_ways, cases_lt, and_from, and_parts, le-leb, lt-ltb, ne_eqb, eq-eqb}
use Rattle.s38_disk.specs.declared.block.Block.{Block}
use Rattle.s38_base.specs.declared.page.Key.{Key}
use Rattle.s38_redo_log.specs.declared.layout.Layout.{Layout}
use Rattle.s38_redo_log.specs.Coding.{home_is_used, key_in}
use Rattle.s38_redo_log.specs.Store.{is_home}
use Rattle.s38_pages.specs.Index.{Homes, Index, with_home}
use Rattle.std.specs.FinMap.{get, insert}
use Rattle.std.proofs.lemmas.Bool.{cases_Bool}
use Rattle.s38_redo_log.proofs.Again.{home_above}
use Rattle.s38_pages.proofs.Tallies.{get_inserted}
use Rattle.s38_pages.specs.Scan.{AreTwins, Scanned, home_noted, twin_of}
use Rattle.s38_pages.proofs.Contents.{key_cases, apart_keys, with_here, with_other, some_same, none_some}

module _ (lay : Layout) (f : ℕ → Block) (ix : Index) (h : ℕ) (d : Scanned lay f ix h) where
  -- no home is noted for this key
  pub scanned_skip : (is_home lay h ≡ true → home_is_used (f h) ≡ true → ⊥) → Scanned lay f ix (h + 1)
  scanned_skip nothing = record {
    sound = λ k i at. let s = d.sound k i at in (omega (arith, s.0), s.1, s.2, s.3);
    whole = λ i le home used. ⊎_elim (λ lt. d.whole i lt home used) (λ ge. let e : i ≡ h = omega arith in absurd (nothing (ap (is_home lay) (sym e) ∙ home) (ap (λ n. home_is_used (f n)) (sym e) ∙ used))) (cases_lt i h);
  }

  pub scanned_new : is_home lay h ≡ true → home_is_used (f h) ≡ true → ix (key_in (f h)) ≡ None → Scanned lay f (with_home ix (key_in (f h)) (Some h)) (h + 1)
  scanned_new home used none = record {
    sound = λ k i at. ⊎_elim
        (λ e. let is : i ≡ h = some_same i h (sym at ∙ with_here ix (key_in (f h)) (Some h) k e) in
        (omega (arith, is), ap (is_home lay) is ∙ home, ap (λ n. home_is_used (f n)) is ∙ used, ap (λ n. key_in (f n)) is ∙ sym e))
        (λ other. let s = d.sound k i (sym (with_other ix (key_in (f h)) (Some h) k other) ∙ at) in (omega (arith, s.0), s.1, s.2, s.3))
        (key_cases k (key_in (f h)));
    whole = λ i le home_i used_i. ⊎_elim
        (λ lt. let was = d.whole i lt home_i used_i in with_other ix (key_in (f h)) (Some h) (key_in (f i)) (apart_keys (key_in (f i)) (key_in (f h)) (λ e. none_some i (sym none ∙ ap ix (sym e) ∙ was))) ∙ was)
        (λ ge. let e : i ≡ h = omega arith in with_here ix (key_in (f h)) (Some h) (key_in (f i)) (ap (λ n. key_in (f n)) e) ∙ ap (λ n. Some n) (sym e))
        (cases_lt i h);
  }

  pub scanned_twins : (t : ℕ) → is_home lay h ≡ true → home_is_used (f h) ≡ true → ix (key_in (f h)) ≡ Some t → AreTwins lay f t h
  scanned_twins t home used at = let s = d.sound (key_in (f h)) t at in record {
    order = s.0;
    first_home = s.1;
    second_home = home;
    first_used = s.2;
    second_used = used;
    one_key = s.3;
    least = λ i j lt below hi hj ui uj e. let same : i ≡ j = some_same i j (sym (d.whole i (omega arith) hi ui) ∙ ap ix e ∙ d.whole j below hj uj) in let no_way : ⊥ = omega arith in no_way;
  }

  -- the block of a home is noted
  pub scanned_noted : (b : Block) → b ≡ f h → is_home lay h ≡ true → twin_of ix b ≡ None → Scanned lay f (home_noted ix h b) (h + 1)
  scanned_noted b e home no_twin = subst (λ x. Scanned lay f (home_noted ix h x) (h + 1)) (sym e) (by (home_is_used (f h)) refl (ix (key_in (f h))) refl (sym (ap (twin_of ix) e) ∙ no_twin))
    where
      by : (u : Bool) → home_is_used (f h) ≡ u → (o : Option ℕ) → ix (key_in (f h)) ≡ o → twin_of ix (f h) ≡ None → Scanned lay f (home_noted ix h (f h)) (h + 1)
      by false unused o at none = subst (λ x. Scanned lay f x (h + 1)) (sym (ap (λ v. cond (v && is_none (ix (key_in (f h)))) (with_home ix (key_in (f h)) (Some h)) ix) unused)) (scanned_skip (λ home used. both_ways _ unused used))
      by true used None at none = subst (λ x. Scanned lay f x (h + 1)) (sym (ap (λ v. cond (v && is_none (ix (key_in (f h)))) (with_home ix (key_in (f h)) (Some h)) ix) used ∙ ap (λ o. cond (is_none o) (with_home ix (key_in (f h)) (Some h)) ix) at)) (scanned_new home used at)
      by true used (Some t) at none = absurd (none_some t (sym none ∙ ap (λ v. cond v (ix (key_in (f h))) None) used ∙ at))

  pub twins_noted : (b : Block) (t : ℕ) → b ≡ f h → is_home lay h ≡ true → twin_of ix b ≡ Some t → AreTwins lay f t h
  twins_noted b t e home twin = by (home_is_used (f h)) refl (sym (ap (twin_of ix) e) ∙ twin)
    where
      by : (u : Bool) → home_is_used (f h) ≡ u → twin_of ix (f h) ≡ Some t → AreTwins lay f t h
      by false unused is = absurd (none_some t (sym (ap (λ v. cond v (ix (key_in (f h))) None) unused) ∙ is))
      by true used is = scanned_twins t home used (sym (ap (λ v. cond v (ix (key_in (f h))) None) used) ∙ is)

pub scanned_start : (lay : Layout) (f : ℕ → Block) (ix : Index) → ((k : Key) → ix k ≡ None) → ((i : ℕ) → i < lay.first → is_home lay i ≡ false) → Scanned lay f ix lay.first
scanned_start lay f ix empty below = record {
  sound = λ k i at. absurd (none_some i (sym (empty k) ∙ at));
  whole = λ i lt home used. absurd (both_ways _ (below i lt) home);
}

pub home_is : (lay : Layout) (i : ℕ) → lay.first ≤ i → i < lay.size → (i ≡ lay.hole → ⊥) → is_home lay i ≡ true
home_is lay i a b hole = and_from _ _ (le-leb lay.first i a) (and_from _ _ (lt-ltb i lay.size b) (ap not (ne_eqb i lay.hole hole)))

pub hole_is : (lay : Layout) (i : ℕ) → i ≡ lay.hole → is_home lay i ≡ true → ⊥
hole_is lay i e h = both_ways _ (ap not (eq-eqb i lay.hole e)) (and_parts _ _ (and_parts _ _ h).1).1

-- a block below the homes is none
pub low_no_home : (lay : Layout) (i : ℕ) → i < lay.first → is_home lay i ≡ false
low_no_home lay i lt = ⊎_elim (λ is. let above = home_above lay i is in absurd (omega (arith, above, lt))) (λ none. none) (cases_Bool (is_home lay i))

-- the key of a block that is used is noted already, or is not
pub twin_there : (ix : Index) (b : Block) (k : Key) (o : Option ℕ) → key_in b ≡ k → home_is_used b ≡ true → ix k ≡ o → o ≡ twin_of ix b
twin_there ix b k o e used at = sym (ap (λ v. cond v (ix (key_in b)) None) used ∙ ap ix e ∙ at)

-- a key that is noted already is not noted again
pub noted_there : (ix : Index) (at : ℕ) (b : Block) (k : Key) (t : ℕ) → key_in b ≡ k → home_is_used b ≡ true → ix k ≡ Some t → ix ≡ home_noted ix at b
noted_there ix at b k t e used is =
    sym (ap (λ o. cond (home_is_used b && is_none o) (with_home ix (key_in b) (Some at)) ix) (ap ix e ∙ is) ∙ ap (λ v. cond (v && false) (with_home ix (key_in b) (Some at)) ix) used)

-- a key that is not there is noted
pub noted_new : (homes : Homes) (at : ℕ) (b : Block) (k : Key) → key_in b ≡ k → home_is_used b ≡ true → get homes k ≡ None → get (insert homes k at) ≡ home_noted (get homes) at b
noted_new homes at b k e used none =
    get_inserted homes k at ∙ ap (λ x. with_home (get homes) x (Some at)) (sym e)
    ∙ sym (ap (λ o. cond (is_none o) (with_home (get homes) (key_in b) (Some at)) (get homes)) (ap (get homes) e ∙ none))
    ∙ sym (ap (λ v. cond (v && is_none (get homes (key_in b))) (with_home (get homes) (key_in b) (Some at)) (get homes)) used)
