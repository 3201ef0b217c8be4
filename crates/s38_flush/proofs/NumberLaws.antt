-- The numbers of the objects that a step must persist.
use Rattle.std.proofs.Common.{◌≡◌, ◌++◌, ◌+◌, ◌<◌, ◌≤◌, ◌==◌, ◌∙◌, ◌∷◌, [], Bool, List, ap, append_assoc, arith, cond, drop, drop-cons, false, get_or, length, refl, suc, sym, take, true, ℕ}
use Rattle.std.proofs.Math.Seq.{take-suc}
use Rattle.std.proofs.lemmas.Bool.Decides.{nat_tests}
use Rattle.std.proofs.lemmas.List.{take-append-drop, take_all, drop_all}
use Rattle.std.specs.Prelude.{◌||◌, nat_lt}
use Rattle.s38_durable_state.specs.Represents.{is_among}
use Rattle.s38_laws_objects.specs.Outline.{is_forced, speaks_of}
use Rattle.s38_rules.specs.store.Forcing.{Ceiling, Forced, Header, Removed, Whole}
use Rattle.s38_space_map.specs.Forcings.{all_forced, forced_as}
use Rattle.s38_flush.specs.Numbers.{numbers, with_all_numbers, with_forced, with_number}
use Rattle.s38_space_map.specs.declared.forcing.Forcing.{Forcing}

-- ---- a number in its place

behind : (n m : ℕ) (ms : List ℕ) → m < n → with_number n (m ∷ ms) ≡ m ∷ with_number n ms
unfolding with_number
behind n m ms low =
    let first : nat_lt n m ≡ false = grind (arith, nat_tests) in
    let second : (n == m) ≡ false = grind (arith, nat_tests) in
    rw (first, second) refl

before : (n m : ℕ) (ms : List ℕ) → n < m → with_number n (m ∷ ms) ≡ n ∷ m ∷ ms
unfolding with_number
before n m ms low = let first : nat_lt n m ≡ true = grind (arith, nat_tests) in rw first refl

there : (n m : ℕ) (ms : List ℕ) → n ≡ m → with_number n (m ∷ ms) ≡ m ∷ ms
unfolding with_number
there n m ms same =
    let first : nat_lt n m ≡ false = grind (arith, nat_tests) in
    let second : (n == m) ≡ true = grind (arith, nat_tests) in
    rw (first, second) refl

-- at a place
at_place : (at x : ℕ) (ns : List ℕ) → at < length ns → x ≡ get_or ns at x → drop at ns ≡ x ∷ drop (at + 1) ns
at_place at x ns within is =
    let next : suc at ≡ at + 1 = omega arith in
    drop-cons ns at x within ∙ ap (λ (m : ℕ). m ∷ drop (suc at) ns) (sym is) ∙ ap (λ (k : ℕ). x ∷ drop k ns) next

-- a number is passed that is less
pub place_on : (n at x : ℕ) (ns all : List ℕ) → at < length ns → x ≡ get_or ns at x → x < n → all ≡ take at ns ++ with_number n (drop at ns) → all ≡ take (at + 1) ns ++ with_number n (drop (at + 1) ns)
place_on n at x ns all within is low so_far =
    let rest = drop (at + 1) ns in
    let next : at + 1 ≡ suc at = omega arith in
    let more : take (at + 1) ns ≡ take at ns ++ x ∷ [] =
    ap (λ (k : ℕ). take k ns) next ∙ take-suc ns at x within ∙ ap (λ (m : ℕ). take at ns ++ m ∷ []) (sym is) in
    so_far ∙ ap (λ (xs : List ℕ). take at ns ++ with_number n xs) (at_place at x ns within is)
    ∙ ap (λ (xs : List ℕ). take at ns ++ xs) (behind n x rest low) ∙ sym (append_assoc (take at ns) (x ∷ []) (with_number n rest))
    ∙ ap (λ (xs : List ℕ). xs ++ with_number n rest) (sym more)

-- the number comes before one that is greater
pub place_before : (n at x : ℕ) (ns all : List ℕ) → at < length ns → x ≡ get_or ns at x → n < x → all ≡ take at ns ++ with_number n (drop at ns) → take at ns ++ n ∷ drop at ns ≡ all
place_before n at x ns all within is low so_far =
    let here = at_place at x ns within is in
    ap (λ (xs : List ℕ). take at ns ++ xs) (ap (λ (xs : List ℕ). n ∷ xs) here ∙ sym (before n x (drop (at + 1) ns) low) ∙ ap (with_number n) (sym here)) ∙ sym so_far

-- it is there
pub place_there : (n at x : ℕ) (ns all : List ℕ) → at < length ns → x ≡ get_or ns at x → n ≡ x → all ≡ take at ns ++ with_number n (drop at ns) → ns ≡ all
place_there n at x ns all within is same so_far =
    let here = at_place at x ns within is in
    sym (take-append-drop at ns)
    ∙ ap (λ (xs : List ℕ). take at ns ++ xs) (here ∙ sym (there n x (drop (at + 1) ns) same) ∙ ap (with_number n) (sym here)) ∙ sym so_far

-- all are less
pub place_last : (n at : ℕ) (ns all : List ℕ) → length ns ≤ at → all ≡ take at ns ++ with_number n (drop at ns) → ns ++ n ∷ [] ≡ all
unfolding with_number
place_last n at ns all end so_far =
    ap (λ (xs : List ℕ). xs ++ n ∷ []) (sym (take_all at ns end))
    ∙ ap (λ (xs : List ℕ). take at ns ++ with_number n xs) (sym (drop_all at ns end)) ∙ sym so_far

-- ---- the numbers of what must persist

-- one more is passed
pub numbers_on : (i : ℕ) (d : Forcing) (all : List Forcing) (ns new total : List ℕ) → i < length all → new ≡ with_forced ns (forced_as (get_or all i d)) → with_all_numbers ns (all_forced (drop i all)) ≡ total → with_all_numbers new (all_forced (drop (i + 1) all)) ≡ total
unfolding with_all_numbers
numbers_on i d all ns new total within more so_far =
    let next : suc i ≡ i + 1 = omega arith in
    let here : drop i all ≡ get_or all i d ∷ drop (i + 1) all = drop-cons all i d within ∙ ap (λ (k : ℕ). get_or all i d ∷ drop k all) next in
    ap (λ (ms : List ℕ). with_all_numbers ms (all_forced (drop (i + 1) all))) more ∙ ap (λ (fs : List Forcing). with_all_numbers ns (all_forced fs)) (sym here) ∙ so_far

pub numbers_done : (i : ℕ) (all : List Forcing) (ns total : List ℕ) → length all ≤ i → with_all_numbers ns (all_forced (drop i all)) ≡ total → ns ≡ total
unfolding with_all_numbers
numbers_done i all ns total end so_far = ap (λ (fs : List Forcing). with_all_numbers ns (all_forced fs)) (sym (drop_all i all end)) ∙ so_far

-- ---- the numbers rise, and are those that are spoken of

-- the first of rising numbers is the least
unfoldable pub AreAbove : ℕ → List ℕ → Type 0
AreAbove n [] = Unit {0}
AreAbove n (m ∷ ms) = (n < m) × AreAbove n ms

unfoldable pub Rise : List ℕ → Type 0
Rise [] = Unit {0}
Rise (n ∷ ns) = AreAbove n ns × Rise ns

above_on : (n m : ℕ) (ms : List ℕ) → n < m → AreAbove m ms → AreAbove n ms
unfolding AreAbove
above_on n m [] low h = tt
above_on n m (k ∷ ms) low h = (omega (arith, h.0), above_on n m ms low h.1)

above_with : (n m : ℕ) (ms : List ℕ) → n < m → AreAbove n ms → AreAbove n (with_number m ms)
unfolding AreAbove with_number
above_with n m [] low h = (low, tt)
above_with n m (k ∷ ms) low h = by (nat_lt m k) (m == k) (above_with n m ms low h.1)
  where
    by : (a b : Bool) → AreAbove n (with_number m ms) → AreAbove n (cond a (m ∷ k ∷ ms) (cond b (k ∷ ms) (k ∷ with_number m ms)))
    by true b rest = (low, (h.0, h.1))
    by false true rest = (h.0, h.1)
    by false false rest = (h.0, rest)

rise_with : (n : ℕ) (ns : List ℕ) → Rise ns → Rise (with_number n ns)
unfolding AreAbove Rise with_number
rise_with n [] h = (tt, tt)
rise_with n (m ∷ ms) h = by (nat_lt n m) refl (n == m) refl (rise_with n ms h.1)
  where
    by : (a : Bool) → nat_lt n m ≡ a → (b : Bool) → (n == m) ≡ b → Rise (with_number n ms) → Rise (cond a (n ∷ m ∷ ms) (cond b (m ∷ ms) (m ∷ with_number n ms)))
    by true low b same rest = let less : n < m = grind (arith, nat_tests) in ((less, above_on n m ms less h.0), h)
    by false low true same rest = h
    by false low false same rest = let less : m < n = grind (arith, nat_tests) in (above_with m n ms less h.0, rest)

rise_forced : (ns : List ℕ) (one : Forced) → Rise ns → Rise (with_forced ns one)
rise_forced ns Ceiling h = h
rise_forced ns (Header n) h = rise_with n ns h
rise_forced ns (Whole n) h = rise_with n ns h
rise_forced ns (Removed n) h = rise_with n ns h

rise_all : (ns : List ℕ) (all : List Forced) → Rise ns → Rise (with_all_numbers ns all)
unfolding with_all_numbers
rise_all ns [] h = h
rise_all ns (one ∷ all) h = rise_all (with_forced ns one) all (rise_forced ns one h)

pub numbers_rise : (all : List Forced) → Rise (numbers all)
unfolding Rise
numbers_rise all = rise_all [] all tt

-- a number is among those with another one where it is this one, or is among them
among_with : (k n : ℕ) (ns : List ℕ) → is_among k (with_number n ns) ≡ ((k == n) || is_among k ns)
unfolding with_number
among_with k n [] = refl
among_with k n (m ∷ ms) = by (nat_lt n m) (n == m) refl (among_with k n ms)
  where
    swap : (a b c : Bool) → (a || (b || c)) ≡ (b || (a || c))
    swap true true c = refl
    swap true false c = refl
    swap false b c = refl

    twice : (a c : Bool) → (a || c) ≡ (a || (a || c))
    twice true c = refl
    twice false c = refl

    by : (a b : Bool) → (n == m) ≡ b → is_among k (with_number n ms) ≡ ((k == n) || is_among k ms)
        → is_among k (cond a (n ∷ m ∷ ms) (cond b (m ∷ ms) (m ∷ with_number n ms))) ≡ ((k == n) || ((k == m) || is_among k ms))
    by true b same rest = refl
    by false true same rest =
        let one : n ≡ m = grind (arith, nat_tests) in
        twice (k == m) (is_among k ms) ∙ ap (λ (j : ℕ). (k == j) || ((k == m) || is_among k ms)) (sym one)
    by false false same rest = ap (λ b. (k == m) || b) rest ∙ swap (k == m) (k == n) (is_among k ms)

turned : (k n : ℕ) → (k == n) ≡ (n == k)
turned k n = by (k == n) (n == k) refl refl
  where
    by : (a b : Bool) → (k == n) ≡ a → (n == k) ≡ b → a ≡ b
    by true true x y = refl
    by true false x y = absurd (let same : k ≡ n = grind (arith, nat_tests) in let apart : ⊥ = grind (arith, nat_tests) in apart)
    by false true x y = absurd (let same : n ≡ k = grind (arith, nat_tests) in let apart : ⊥ = grind (arith, nat_tests) in apart)
    by false false x y = refl

among_forced : (k : ℕ) (ns : List ℕ) (one : Forced) → is_among k (with_forced ns one) ≡ (speaks_of k one || is_among k ns)
among_forced k ns Ceiling = refl
among_forced k ns (Header n) = among_with k n ns ∙ ap (λ b. b || is_among k ns) (turned k n)
among_forced k ns (Whole n) = among_with k n ns ∙ ap (λ b. b || is_among k ns) (turned k n)
among_forced k ns (Removed n) = among_with k n ns ∙ ap (λ b. b || is_among k ns) (turned k n)

among_all : (k : ℕ) (ns : List ℕ) (all : List Forced) → is_among k (with_all_numbers ns all) ≡ (is_forced k all || is_among k ns)
unfolding with_all_numbers
among_all k ns [] = refl
among_all k ns (one ∷ all) =
    among_all k (with_forced ns one) all ∙ ap (λ b. is_forced k all || b) (among_forced k ns one)
    ∙ moved (speaks_of k one) (is_forced k all) (is_among k ns)
  where
    moved : (a b c : Bool) → (b || (a || c)) ≡ ((a || b) || c)
    moved true true c = refl
    moved true false c = refl
    moved false b c = refl

-- a number is among them exactly where it is spoken of
pub numbers_are : (k : ℕ) (all : List Forced) → is_among k (numbers all) ≡ is_forced k all
numbers_are k all = among_all k [] all ∙ none (is_forced k all)
  where
    none : (b : Bool) → (b || false) ≡ b
    none true = refl
    none false = refl
