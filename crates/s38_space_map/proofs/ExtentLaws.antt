-- Extents in rising order that are looked for by number, after one was put among them or taken out.
use Rattle.std.proofs.Common.{◌≡◌, ℕ, ◌<◌, ◌≤◌, ◌==◌, Bool, true, false, cond, not, List, [], ◌∷◌, length, refl, sym, ◌∙◌, ap, subst, arith, suc}
use Rattle.std.proofs.lemmas.Bool.Decides.{nat_tests}
use Rattle.std.proofs.lemmas.List.Sums.{take_while-cons}
use Rattle.std.specs.Prelude.{Option, Some, None, insert, nat_lt, slice_set, take_while}
use Rattle.s38_rules.specs.store.Room.{Extent, extent_at}
use Rattle.s38_space_map.specs.Extents.{AreRising, IsBelowAll, count_before, is_there, with_extent, without}

pub number_same : (a b : ℕ) → (a == b) ≡ true → a ≡ b
number_same a b h = grind (arith, nat_tests)

pub number_below : (a b : ℕ) → nat_lt a b ≡ true → a < b
number_below a b h = grind (arith, nat_tests)

pub number_above : (a b : ℕ) → nat_lt a b ≡ false → (a == b) ≡ false → b < a
number_above a b h g = grind (arith, nat_tests)

number_other : (a b : ℕ) → a < b → (b == a) ≡ false
number_other a b h = grind (arith, nat_tests)

-- ---- what is below all

pub below_more : (m n : ℕ) (xs : List Extent) → m < n → IsBelowAll n xs → IsBelowAll m xs
below_more m n [] h below = tt
below_more m n (x ∷ xs) h below = (omega (arith, h, below.0), below_more m n xs h below.1)

pub none_below : (n : ℕ) (xs : List Extent) → IsBelowAll n xs → extent_at xs n ≡ None
none_below n [] below = refl
none_below n (x ∷ xs) below = rw (number_other n x.number below.0) (none_below n xs below.1)

-- ---- one more, or another one

below_with : (n : ℕ) (new : Extent) (xs : List Extent) → n < new.number → IsBelowAll n xs → IsBelowAll n (with_extent new xs)
below_with n new [] h below = (h, tt)
below_with n new (x ∷ xs) h below = by (below_with n new xs h below.1) (nat_lt x.number new.number) (x.number == new.number)
  where
    by : IsBelowAll n (with_extent new xs) → (a b : Bool) → IsBelowAll n (cond a (x ∷ with_extent new xs) (cond b (new ∷ xs) (new ∷ x ∷ xs)))
    by rest true b = (below.0, rest)
    by rest false true = (h, below.1)
    by rest false false = (h, below)

pub rising_with : (new : Extent) (xs : List Extent) → AreRising xs → AreRising (with_extent new xs)
rising_with new [] rising = (tt, tt)
rising_with new (x ∷ xs) rising = by (rising_with new xs rising.1) (nat_lt x.number new.number) refl (x.number == new.number) refl
  where
    by : AreRising (with_extent new xs) → (a : Bool) → nat_lt x.number new.number ≡ a → (b : Bool) → (x.number == new.number) ≡ b → AreRising (cond a (x ∷ with_extent new xs) (cond b (new ∷ xs) (new ∷ x ∷ xs)))
    by rest true a b is = (below_with x.number new xs (number_below x.number new.number a) rising.0, rest)
    by rest false a true is = (subst (λ (n : ℕ). IsBelowAll n xs) (number_same x.number new.number is) rising.0, rising.1)
    by rest false a false is =
        let below = number_above x.number new.number a is in
        ((below, below_more new.number x.number xs below rising.0), rising)

pub at_with : (new : Extent) (xs : List Extent) (m : ℕ) → extent_at (with_extent new xs) m ≡ cond (new.number == m) (Some new) (extent_at xs m)
at_with new [] m = refl
at_with new (x ∷ xs) m = by (at_with new xs m) (nat_lt x.number new.number) refl (x.number == new.number) refl (x.number == m) refl (new.number == m) refl
  where
    by : extent_at (with_extent new xs) m ≡ cond (new.number == m) (Some new) (extent_at xs m)
        → (a : Bool) → nat_lt x.number new.number ≡ a → (b : Bool) → (x.number == new.number) ≡ b → (c : Bool) → (x.number == m) ≡ c → (d : Bool) → (new.number == m) ≡ d
        → extent_at (cond a (x ∷ with_extent new xs) (cond b (new ∷ xs) (new ∷ x ∷ xs))) m ≡ cond d (Some new) (cond c (Some x) (extent_at xs m))
    by rest true a b is true c true d = absurd (grind (arith, nat_tests, number_below x.number new.number a))
    by rest true a b is true c false d = rw c refl
    by rest true a b is false c true d = rw (c, rest, d) refl
    by rest true a b is false c false d = rw (c, rest, d) refl
    by rest false a true is c e true d = rw d refl
    by rest false a true is true e false d = absurd (grind (arith, nat_tests))
    by rest false a true is false e false d = rw d refl
    by rest false a false is c e true d = rw d refl
    by rest false a false is c e false d = rw (d, e) refl

-- ---- one less

below_without : (k n : ℕ) (xs : List Extent) → IsBelowAll k xs → IsBelowAll k (without n xs)
below_without k n [] below = tt
below_without k n (x ∷ xs) below = by (below_without k n xs below.1) (x.number == n)
  where
    by : IsBelowAll k (without n xs) → (a : Bool) → IsBelowAll k (cond (not a) (x ∷ without n xs) (without n xs))
    by rest true = rest
    by rest false = (below.0, rest)

pub rising_without : (n : ℕ) (xs : List Extent) → AreRising xs → AreRising (without n xs)
rising_without n [] rising = tt
rising_without n (x ∷ xs) rising = by (rising_without n xs rising.1) (x.number == n)
  where
    by : AreRising (without n xs) → (a : Bool) → AreRising (cond (not a) (x ∷ without n xs) (without n xs))
    by rest true = rest
    by rest false = (below_without x.number n xs rising.0, rest)

pub at_without : (n : ℕ) (xs : List Extent) (m : ℕ) → extent_at (without n xs) m ≡ cond (n == m) None (extent_at xs m)
at_without n [] m = by (n == m)
  where
    by : (b : Bool) → ◌≡◌ {A = Option Extent} None (cond b None None)
    by true = refl
    by false = refl
at_without n (x ∷ xs) m = by (at_without n xs m) (x.number == n) refl (x.number == m) refl (n == m) refl
  where
    by : extent_at (without n xs) m ≡ cond (n == m) None (extent_at xs m)
        → (a : Bool) → (x.number == n) ≡ a → (b : Bool) → (x.number == m) ≡ b → (c : Bool) → (n == m) ≡ c
        → extent_at (cond (not a) (x ∷ without n xs) (without n xs)) m ≡ cond c None (cond b (Some x) (extent_at xs m))
    by rest true a b is true c = rw (rest, c) refl
    by rest true a true is false c = absurd (grind (arith, nat_tests))
    by rest true a false is false c = rw (rest, c) refl
    by rest false a true is true c = absurd (grind (arith, nat_tests))
    by rest false a true is false c = rw is refl
    by rest false a false is true c = rw (is, rest, c) refl
    by rest false a false is false c = rw (is, rest, c) refl

-- ---- places

pub place_within : (n : ℕ) (xs : List Extent) → count_before n xs ≤ length xs
place_within n [] = omega arith
place_within n (x ∷ xs) = by (place_within n xs) (nat_lt x.number n)
  where
    by : count_before n xs ≤ length xs → (b : Bool) → cond b (suc (count_before n xs)) 0 ≤ length (x ∷ xs)
    by rest true = omega (arith, rest)
    by rest false = omega arith

-- an extent that is there lies within
pub place_there : (n : ℕ) (xs : List Extent) → is_there n (count_before n xs) xs ≡ true → count_before n xs < length xs
place_there n [] on = cc
place_there n (x ∷ xs) on = by (place_there n xs) (nat_lt x.number n) on
  where
    by : (is_there n (count_before n xs) xs ≡ true → count_before n xs < length xs) → (b : Bool) → is_there n (cond b (suc (count_before n xs)) 0) (x ∷ xs) ≡ true → cond b (suc (count_before n xs)) 0 < length (x ∷ xs)
    by rest true g = omega (arith, rest g)
    by rest false g = omega arith

pub replaced : (new : Extent) (xs : List Extent) → is_there new.number (count_before new.number xs) xs ≡ true → slice_set xs (count_before new.number xs) new ≡ with_extent new xs
replaced new [] on = cc
replaced new (x ∷ xs) on = by (replaced new xs) (nat_lt x.number new.number) on
  where
    by : (is_there new.number (count_before new.number xs) xs ≡ true → slice_set xs (count_before new.number xs) new ≡ with_extent new xs)
        → (b : Bool) → is_there new.number (cond b (suc (count_before new.number xs)) 0) (x ∷ xs) ≡ true
        → slice_set (x ∷ xs) (cond b (suc (count_before new.number xs)) 0) new ≡ cond b (x ∷ with_extent new xs) (cond (x.number == new.number) (new ∷ xs) (new ∷ x ∷ xs))
    by rest true g = ap (λ (l : List Extent). x ∷ l) (rest g)
    by rest false g = rw g refl

pub inserted : (new : Extent) (xs : List Extent) → is_there new.number (count_before new.number xs) xs ≡ false → insert xs (count_before new.number xs) new ≡ with_extent new xs
inserted new [] off = refl
inserted new (x ∷ xs) off = by (inserted new xs) (nat_lt x.number new.number) off
  where
    by : (is_there new.number (count_before new.number xs) xs ≡ false → insert xs (count_before new.number xs) new ≡ with_extent new xs)
        → (b : Bool) → is_there new.number (cond b (suc (count_before new.number xs)) 0) (x ∷ xs) ≡ false
        → insert (x ∷ xs) (cond b (suc (count_before new.number xs)) 0) new ≡ cond b (x ∷ with_extent new xs) (cond (x.number == new.number) (new ∷ xs) (new ∷ x ∷ xs))
    by rest true g = ap (λ (l : List Extent). x ∷ l) (rest g)
    by rest false g = rw g refl

-- ---- extents that are found alike are the same

pub number_found : (n : ℕ) (x : Extent) (xs : List Extent) → extent_at xs n ≡ Some x → x.number ≡ n
number_found n x [] h = cc
number_found n x (y ∷ ys) h = by (number_found n x ys) (y.number == n) refl h
  where
    same : Some y ≡ Some x → y ≡ x
    same e = cc

    by : (extent_at ys n ≡ Some x → x.number ≡ n) → (b : Bool) → (y.number == n) ≡ b → cond b (Some y) (extent_at ys n) ≡ Some x → x.number ≡ n
    by rest true is g = subst (λ (z : Extent). z.number ≡ n) (same g) (number_same y.number n is)
    by rest false is g = rest g

itself : (n : ℕ) → (n == n) ≡ true
itself n = grind (arith, nat_tests)

-- the first ones are the same
first_same : (x y : Extent) (xs ys : List Extent) → AreRising (x ∷ xs) → AreRising (y ∷ ys) → ((n : ℕ) → extent_at (x ∷ xs) n ≡ extent_at (y ∷ ys) n) → x ≡ y
first_same x y xs ys one other same = by (x.number == y.number) refl (nat_lt x.number y.number) refl
  where
    some_same : Some x ≡ Some y → x ≡ y
    some_same e = cc

    some_none : (z : Extent) → Some z ≡ None → ⊥
    some_none z e = cc

    at_x : cond (x.number == x.number) (Some x) (extent_at xs x.number) ≡ cond (y.number == x.number) (Some y) (extent_at ys x.number)
    at_x = same x.number

    at_y : cond (x.number == y.number) (Some x) (extent_at xs y.number) ≡ cond (y.number == y.number) (Some y) (extent_at ys y.number)
    at_y = same y.number

    by : (a : Bool) → (x.number == y.number) ≡ a → (b : Bool) → nat_lt x.number y.number ≡ b → x ≡ y
    by true is b lt = some_same (rw (is, itself y.number) at at_y)
    by false is true lt = absurd (some_none x (rw (
      itself x.number,
      number_other x.number y.number (number_below x.number y.number lt),
      none_below x.number ys (below_more x.number y.number ys (number_below x.number y.number lt) other.0),
    ) at at_x))
    by false is false lt = absurd (some_none y (sym (rw (
      itself y.number,
      is,
      none_below y.number xs (below_more y.number x.number xs (number_above x.number y.number lt is) one.0),
    ) at at_y)))

-- the others are found alike too
later_same : (x : Extent) (xs ys : List Extent) → AreRising (x ∷ xs) → AreRising (x ∷ ys) → ((n : ℕ) → extent_at (x ∷ xs) n ≡ extent_at (x ∷ ys) n) → (n : ℕ) → extent_at xs n ≡ extent_at ys n
later_same x xs ys one other same n = by (x.number == n) refl (same n)
  where
    by : (a : Bool) → (x.number == n) ≡ a → cond a (Some x) (extent_at xs n) ≡ cond a (Some x) (extent_at ys n) → extent_at xs n ≡ extent_at ys n
    by true is e = subst (λ (m : ℕ). extent_at xs m ≡ extent_at ys m) (number_same x.number n is) (none_below x.number xs one.0 ∙ sym (none_below x.number ys other.0))
    by false is e = e

pub found_alike : (xs ys : List Extent) → AreRising xs → AreRising ys → ((n : ℕ) → extent_at xs n ≡ extent_at ys n) → xs ≡ ys
found_alike [] [] one other same = refl
found_alike [] (y ∷ ys) one other same = absurd (apart (rw (itself y.number) at (same y.number)))
  where
    apart : ◌≡◌ {A = Option Extent} None (Some y) → ⊥
    apart e = cc
found_alike (x ∷ xs) [] one other same = absurd (apart (rw (itself x.number) at (same x.number)))
  where
    apart : ◌≡◌ {A = Option Extent} (Some x) None → ⊥
    apart e = cc
found_alike (x ∷ xs) (y ∷ ys) one other same =
    let first = first_same x y xs ys one other same in
    let others : AreRising (x ∷ ys) = subst (λ (z : Extent). AreRising (z ∷ ys)) (sym first) other in
    let alike : (n : ℕ) → extent_at (x ∷ xs) n ≡ extent_at (x ∷ ys) n = subst (λ (z : Extent). (n : ℕ) → extent_at (x ∷ xs) n ≡ extent_at (z ∷ ys) n) (sym first) same in
    ap (λ (l : List Extent). x ∷ l) (found_alike xs ys one.1 others.1 (later_same x xs ys one others alike)) ∙ ap (λ (z : Extent). z ∷ ys) first
