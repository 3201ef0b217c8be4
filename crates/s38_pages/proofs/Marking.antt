-- Marks, and how many are not set.
use Rattle.std.proofs.Common.{◌≡◌, ℕ, zero, suc, ◌+◌, ◌<◌, Bool, true, false, slice_set, List, [], ◌∷◌, length, refl, sym, ◌∙◌, ap, arith, ⊎_elim}
use Rattle.std.proofs.lemmas.Bool.{true≢false, cases_eq}
use Rattle.std.proofs.lemmas.List.{get_or-set_same, get_or-set_other}
use Rattle.s38_pages.specs.Index.{marked, unmarked}

pub unmarked_set : (used : List Bool) (h : ℕ) → h < length used → marked used h ≡ false → unmarked (slice_set used h true) + 1 ≡ unmarked used
unfolding unmarked
unmarked_set [] h le free = absurd (omega arith)
unmarked_set (true ∷ used) zero le free = absurd (true≢false free)
unmarked_set (false ∷ used) zero le free = omega arith
unmarked_set (true ∷ used) (suc h) le free = unmarked_set used h (omega arith) free
unmarked_set (false ∷ used) (suc h) le free = let rest = unmarked_set used h (omega arith) free in omega arith

pub unmarked_clear : (used : List Bool) (h : ℕ) → h < length used → marked used h ≡ true → unmarked (slice_set used h false) ≡ unmarked used + 1
unfolding unmarked
unmarked_clear [] h le there = absurd (omega arith)
unmarked_clear (true ∷ used) zero le there = omega arith
unmarked_clear (false ∷ used) zero le there = absurd (true≢false (sym there))
unmarked_clear (true ∷ used) (suc h) le there = unmarked_clear used h (omega arith) there
unmarked_clear (false ∷ used) (suc h) le there = let rest = unmarked_clear used h (omega arith) there in omega arith

-- where all is marked, nothing is free
pub all_marked : (used : List Bool) → ((i : ℕ) → i < length used → marked used i ≡ true) → unmarked used ≡ 0
unfolding unmarked
all_marked [] all = refl
all_marked (true ∷ used) all = all_marked used (λ i le. all (suc i) (omega arith))
all_marked (false ∷ used) all = absurd (true≢false (sym (all 0 (omega arith))))

pub set_there : (used : List Bool) (h : ℕ) (b : Bool) → h < length used → marked (slice_set used h b) h ≡ b
set_there used h b le = get_or-set_same used h b false le

pub set_other : (used : List Bool) (h i : ℕ) (b : Bool) → (i ≡ h → ⊥) → marked (slice_set used h b) i ≡ marked used i
set_other used h i b other = get_or-set_other used h i b false other

-- a mark more
pub more_marked : (used : List Bool) (h i : ℕ) → h < length used → marked used i ≡ true → marked (slice_set used h true) i ≡ true
more_marked used h i le is = ⊎_elim (λ e. ap (marked (slice_set used h true)) e ∙ set_there used h true le) (λ other. set_other used h i true other ∙ is) (cases_eq i h)
