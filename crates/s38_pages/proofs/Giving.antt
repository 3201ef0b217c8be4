-- Homes that are given back, one slot after another.
use Rattle.std.proofs.Common.{◌≡◌, ◌==◌, ◌||◌, ◌&&◌, ℕ, zero, suc, ◌+◌, ◌<◌, Bool, true, false, not, cond, slice_set, List, [], ◌∷◌, ◌++◌, length, get_or, take, refl, sym, ◌∙◌, ap, subst, arith, ⊎_elim}
use Rattle.std.proofs.Math.ListN.{length-set}
use Rattle.std.proofs.lemmas.Bool.{true≢false, cases_Bool, cases_eq, both_ways, eq-eqb, ne_eqb}
use Rattle.std.proofs.lemmas.List.{take_more}
use Rattle.s38_redo_log.specs.declared.layout.Layout.{Layout}
use Rattle.s38_redo_log.specs.declared.layout.Slot.{Slot}
use Rattle.s38_redo_log.specs.Store.{AreHomes, targets}
use Rattle.s38_pages.specs.Index.{HaveOwnHomes, count_freed, freed, frees, marked, unmarked}
use Rattle.s38_pages.proofs.Marking.{set_other, set_there, unmarked_clear}
use Rattle.s38_pages.proofs.Planning.{untargeted}
use Rattle.s38_pages.proofs.Tallies.{freed-push}

pub homes_apart : (lay : Layout) (es : List Slot) → AreHomes lay es → HaveOwnHomes es
homes_apart lay [] all = tt
homes_apart lay (e ∷ es) all = (all.1, homes_apart lay es all.2)

-- what is marked is within
pub marked_within : (used : List Bool) (h : ℕ) → marked used h ≡ true → h < length used
marked_within [] h is = absurd (true≢false (sym is))
marked_within (b ∷ used) zero is = omega arith
marked_within (b ∷ used) (suc h) is = let rest = marked_within used h is in omega arith

freed-last : (es : List Slot) (e : Slot) (i : ℕ) → freed (es ++ e ∷ []) i ≡ (freed es i || ((i == e.home) && frees e))
freed-last [] e i = swap ((i == e.home) && frees e)
  where
    swap : (b : Bool) → (b || false) ≡ (false || b)
    swap true = refl
    swap false = refl
freed-last (x ∷ es) e i = ap (λ b. ((i == x.home) && frees x) || b) (freed-last es e i) ∙ nested ((i == x.home) && frees x) (freed es i) ((i == e.home) && frees e)
  where
    nested : (a b c : Bool) → (a || (b || c)) ≡ ((a || b) || c)
    nested true b c = refl
    nested false b c = refl

-- no earlier slot has the home
apart_taken : (es : List Slot) (k : ℕ) (d : Slot) → HaveOwnHomes es → k < length es → targets (take k es) (get_or es k d).home ≡ false
apart_taken [] k d all le = absurd (omega arith)
apart_taken (e ∷ es) zero d all le = refl
apart_taken (e ∷ es) (suc k) d all le =
    ap (λ b. b || targets (take k es) (get_or es k d).home) (ne_eqb _ e.home (λ same. both_ways _ all.0 (ap (targets es) (sym same) ∙ there es k d (omega arith)))) ∙ apart_taken es k d all.1 (omega arith)
  where
    there : (es : List Slot) (k : ℕ) (d : Slot) → k < length es → targets es (get_or es k d).home ≡ true
    there [] k d le = absurd (omega arith)
    there (x ∷ xs) zero d le = ap (λ b. b || targets xs x.home) (eq-eqb x.home x.home refl)
    there (x ∷ xs) (suc k) d le = or_second _ _ (there xs k d (omega arith))
      where
        or_second : (a b : Bool) → b ≡ true → (a || b) ≡ true
        or_second true b e = refl
        or_second false b e = e

pub home_target : (es : List Slot) (k : ℕ) (d : Slot) → k < length es → targets es (get_or es k d).home ≡ true
home_target [] k d le = absurd (omega arith)
home_target (x ∷ xs) zero d le = ap (λ b. b || targets xs x.home) (eq-eqb x.home x.home refl)
home_target (x ∷ xs) (suc k) d le = or_second _ _ (home_target xs k d (omega arith))
  where
    or_second : (a b : Bool) → b ≡ true → (a || b) ≡ true
    or_second true b e = refl
    or_second false b e = e

-- the marks after some slots are given back
pub record Given (was used : List Bool) (es : List Slot) : Type 0 where
  pub marks : (h : ℕ) → marked used h ≡ (marked was h && not (freed es h))
  pub count : unmarked used ≡ unmarked was + count_freed es
  pub size : length used ≡ length was

pub given_start : (was : List Bool) → Given was was []
given_start was = record { marks = λ h. keep (marked was h); count = omega arith; size = refl }
  where
    keep : (b : Bool) → b ≡ (b && true)
    keep true = refl
    keep false = refl

given_push : (was used later : List Bool) (es : List Slot) (e : Slot) → Given was used es → marked was e.home ≡ true → targets es e.home ≡ false
    → (frees e ≡ true → later ≡ slice_set used e.home false) → (frees e ≡ false → later ≡ used) → Given was later (es ++ e ∷ [])
given_push was used later es e g here apart free kept = by (frees e) refl
  where
    still : marked used e.home ≡ true
    still = g.marks e.home ∙ ap (λ b. b && not (freed es e.home)) here ∙ ap not (untargeted es e.home apart)

    last : (h : ℕ) (b c : Bool) → ((h == e.home) && frees e) ≡ b → (marked was h && not (freed es h || b)) ≡ (marked was h && not (freed (es ++ e ∷ []) h))
    last h b c is = ap (λ x. marked was h && not (freed es h || x)) (sym is) ∙ ap (λ x. marked was h && not x) (sym (freed-last es e h))

    none_more : (a b : Bool) → (a && not b) ≡ (a && not (b || false))
    none_more a true = refl
    none_more a false = refl

    gone : (a b : Bool) → false ≡ (a && not (b || true))
    gone true true = refl
    gone true false = refl
    gone false b = refl

    and_false : (b : Bool) → (b && false) ≡ false
    and_false true = refl
    and_false false = refl

    by : (b : Bool) → frees e ≡ b → Given was later (es ++ e ∷ [])
    by false is = subst (λ u. Given was u (es ++ e ∷ [])) (sym (kept is)) (record {
      marks = λ h. g.marks h ∙ none_more (marked was h) (freed es h) ∙ last h false false (ap (λ b. (h == e.home) && b) is ∙ and_false (h == e.home));
      count = let one : ◌≡◌ {A = ℕ} (cond (frees e) 1 0) 0 = ap (λ b. cond {A = ℕ} b 1 0) is in let more = freed-push es e in omega (arith, g.count, one, more);
      size = g.size;
    })
    by true is = subst (λ u. Given was u (es ++ e ∷ [])) (sym (free is)) (record {
      marks = λ h. ⊎_elim
          (λ same. ap (marked (slice_set used e.home false)) same ∙ set_there used e.home false (marked_within used e.home still) ∙ gone (marked was h) (freed es h)
          ∙ last h true true (ap (λ b. b && frees e) (eq-eqb h e.home same) ∙ is))
          (λ other. set_other used e.home h false other ∙ g.marks h ∙ none_more (marked was h) (freed es h) ∙ last h false false (ap (λ b. b && frees e) (ne_eqb h e.home other)))
          (cases_eq h e.home);
      count = let one : ◌≡◌ {A = ℕ} (cond (frees e) 1 0) 1 = ap (λ b. cond {A = ℕ} b 1 0) is in let more = freed-push es e in let cleared = unmarked_clear used e.home (marked_within used e.home still) still in omega (arith, g.count, one, more, cleared);
      size = length-set used e.home false ∙ g.size;
    })

-- one slot more
pub given_more : (was used later : List Bool) (es : List Slot) (k : ℕ) (d : Slot) → k < length es → HaveOwnHomes es → ((h : ℕ) → targets es h ≡ true → marked was h ≡ true) → Given was used (take k es)
    → (frees (get_or es k d) ≡ true → later ≡ slice_set used (get_or es k d).home false) → (frees (get_or es k d) ≡ false → later ≡ used) → Given was later (take (k + 1) es)
given_more was used later es k d le apart all g free kept =
    subst (Given was later) (sym (take_more es k d le))
    (given_push was used later (take k es) (get_or es k d) g (all _ (home_target es k d le)) (apart_taken es k d apart le) free kept)

pub home_within : (was used : List Bool) (es : List Slot) (k : ℕ) (d : Slot) → k < length es → ((h : ℕ) → targets es h ≡ true → marked was h ≡ true) → Given was used (take k es) → (get_or es k d).home < length used
home_within was used es k d le all g = let here = marked_within was (get_or es k d).home (all _ (home_target es k d le)) in omega (arith, here, g.size)

-- a slot that is freed is one of the slots
pub freed_target : (es : List Slot) (h : ℕ) → freed es h ≡ true → targets es h ≡ true
freed_target es h is = ⊎_elim (λ hit. hit) (λ none. absurd (both_ways _ (untargeted es h none) is)) (cases_Bool (targets es h))
