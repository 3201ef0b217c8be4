-- The current stage, and which processes are ready by it.
use Rattle.std.proofs.Common.{◌≡◌, ℕ, zero, suc, ◌+◌, ◌<◌, Bool, true, false, cond, not, ◌&&◌, ◌||◌, List, [], ◌∷◌, ◌++◌, refl, sym, ◌∙◌, ap, arith}
use Rattle.std.proofs.lemmas.Bool.Decides.{nat_tests}
use Rattle.std.proofs.lemmas.List.Elements.{filter-append}
use Rattle.std.specs.Prelude.{filter, nat_lt}
use Rattle.std.specs.List.{range_with_len}
use Rattle.s38_rules.specs.declared.process.ProcessEntry.{ProcessEntry}
use Rattle.s38_rules.specs.state.State.{is_early, runs_before}

-- ---- the least stage

abbrev lesser : ProcessEntry → ℕ → ℕ
lesser x n = cond (not x.ended && nat_lt x.job.stage n) x.job.stage n

abbrev pub least_from : ℕ → List ProcessEntry → ℕ
least_from n [] = n
least_from n (x ∷ xs) = least_from (lesser x n) xs

open_before : (a n k : ℕ) (b : Bool) → nat_lt a n ≡ b → (nat_lt a k || nat_lt n k) ≡ nat_lt (cond b a n) k
open_before a n k true e = by_tests (nat_lt a k) (nat_lt n k) refl refl
  where
    by_tests : (p q : Bool) → nat_lt a k ≡ p → nat_lt n k ≡ q → (p || q) ≡ p
    by_tests true q f g = refl
    by_tests false true f g = absurd (grind (arith, nat_tests))
    by_tests false false f g = refl
open_before a n k false e = by_tests (nat_lt a k) (nat_lt n k) refl refl
  where
    by_tests : (p q : Bool) → nat_lt a k ≡ p → nat_lt n k ≡ q → (p || q) ≡ q
    by_tests true true f g = refl
    by_tests true false f g = absurd (grind (arith, nat_tests))
    by_tests false q f g = refl

one_before : (ended : Bool) (a n k : ℕ) → ((not ended && nat_lt a k) || nat_lt n k) ≡ nat_lt (cond (not ended && nat_lt a n) a n) k
one_before true a n k = refl
one_before false a n k = open_before a n k (nat_lt a n) refl

turn_round : (a b c : Bool) → ((a || b) || c) ≡ (b || (a || c))
turn_round true true c = refl
turn_round true false c = refl
turn_round false b c = refl

early_from : (xs : List ProcessEntry) (n k : ℕ) → (is_early xs k || nat_lt n k) ≡ nat_lt (least_from n xs) k
early_from [] n k = refl
early_from (x ∷ xs) n k =
    turn_round (runs_before k x) (is_early xs k) (nat_lt n k)
    ∙ ap (λ b. is_early xs k || b) (one_before x.ended x.job.stage n k)
    ∙ early_from xs (lesser x n) k

or_false : (a b : Bool) → b ≡ false → (a || b) ≡ a
or_false true b e = refl
or_false false b e = e

-- below the greatest of all there is none but by a process
pub early_is : (xs : List ProcessEntry) (n k least : ℕ) → least ≡ least_from n xs → k < n + 1 → is_early xs k ≡ nat_lt least k
early_is xs n k least is lt =
    let none : nat_lt n k ≡ false = grind (arith, nat_tests) in
    sym (or_false (is_early xs k) (nat_lt n k) none) ∙ early_from xs n k ∙ ap (λ m. nat_lt m k) (sym is)

-- ---- a list of numbers

range_more : (a n : ℕ) → range_with_len a (suc n) ≡ range_with_len a n ++ (a + n) ∷ []
range_more a zero = let here : a ≡ a + 0 = omega arith in ap (λ x. x ∷ []) here
range_more a (suc n) =
    let on : a + 1 + n ≡ a + suc n = omega arith in
    ap (λ xs. a ∷ xs) (range_more (a + 1) n ∙ ap (λ x. range_with_len (a + 1) n ++ x ∷ []) on)

-- one number more
pub filter_range : (test : ℕ → Bool) (n x : ℕ) (b : Bool) → x ≡ n + 1 → b ≡ test x → filter test (range_with_len 1 (n + 1)) ≡ filter test (range_with_len 1 n) ++ cond b (x ∷ []) []
filter_range test n x b is e =
    let next : n + 1 ≡ suc n = omega arith in
    let here : 1 + n ≡ x = omega (arith, is) in
    ap (λ m. filter test (range_with_len 1 m)) next
    ∙ ap (filter test) (range_more 1 n)
    ∙ filter-append test (range_with_len 1 n) ((1 + n) ∷ [])
    ∙ ap (λ y. filter test (range_with_len 1 n) ++ filter test (y ∷ [])) here
    ∙ ap (λ t. filter test (range_with_len 1 n) ++ cond t (x ∷ []) []) (sym e)
