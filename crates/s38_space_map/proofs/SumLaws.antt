-- How many parts extents have once one was put among them or taken out, and how many of some parts they leave.
use Rattle.std.proofs.Common.{◌≡◌, ℕ, ◌+◌, ◌-◌, ◌<◌, ◌==◌, Bool, true, false, cond, not, List, [], ◌∷◌, refl, ◌∙◌, ap, arith}
use Rattle.std.proofs.lemmas.Bool.Decides.{nat_tests}
use Rattle.std.proofs.lemmas.List.Sums.{sum_by-cons}
use Rattle.std.specs.Prelude.{Option, Some, None, nat_lt, sum_by}
use Rattle.s38_rules.specs.store.Room.{Extent, extent_at, parts_of}
use Rattle.s38_space_map.specs.Extents.{AreRising, parts_at, parts_in, with_extent, without}
use Rattle.s38_space_map.proofs.ExtentLaws.{below_more, none_below, number_above, number_below, number_same}

sum : List Extent → ℕ
sum xs = sum_by parts_of xs

cons : (x : Extent) (xs : List Extent) → sum_by parts_of (x ∷ xs) ≡ parts_of x + sum_by parts_of xs
cons x xs = sum_by-cons parts_of x xs

pub sum_with : (new : Extent) (xs : List Extent) → AreRising xs → sum_by parts_of (with_extent new xs) + parts_at new.number xs ≡ sum_by parts_of xs + parts_of new
sum_with new [] rising = omega (arith, cons new [])
sum_with new (x ∷ xs) rising = by (sum_with new xs rising.1) (nat_lt x.number new.number) refl (x.number == new.number) refl
  where
    by : sum_by parts_of (with_extent new xs) + parts_at new.number xs ≡ sum_by parts_of xs + parts_of new
        → (a : Bool) → nat_lt x.number new.number ≡ a → (b : Bool) → (x.number == new.number) ≡ b
        → sum_by parts_of (cond a (x ∷ with_extent new xs) (cond b (new ∷ xs) (new ∷ x ∷ xs))) + parts_in (cond b (Some x) (extent_at xs new.number)) ≡ sum_by parts_of (x ∷ xs) + parts_of new
    by rest true a true is = absurd (grind (arith, nat_tests, number_below x.number new.number a))
    by rest true a false is = omega (arith, cons x (with_extent new xs), cons x xs, rest)
    by rest false a true is = omega (arith, cons new xs, cons x xs)
    by rest false a false is =
        let none = none_below new.number xs (below_more new.number x.number xs (number_above x.number new.number a is) rising.0) in
        rw none (omega (arith, cons new (x ∷ xs), cons x xs))

pub sum_without : (n : ℕ) (xs : List Extent) → AreRising xs → sum_by parts_of (without n xs) + parts_at n xs ≡ sum_by parts_of xs
sum_without n [] rising = omega arith
sum_without n (x ∷ xs) rising = by (sum_without n xs rising.1) (x.number == n) refl
  where
    by : sum_by parts_of (without n xs) + parts_at n xs ≡ sum_by parts_of xs → (a : Bool) → (x.number == n) ≡ a
        → sum_by parts_of (cond (not a) (x ∷ without n xs) (without n xs)) + parts_in (cond a (Some x) (extent_at xs n)) ≡ sum_by parts_of (x ∷ xs)
    by rest false is = omega (arith, cons x (without n xs), cons x xs, rest)
    by rest true is =
        let none = rw (number_same x.number n is) at (none_below x.number xs rising.0) in
        omega (arith, cons x xs, rest, ap parts_in none)

pub left_moved : (before parts was now all : ℕ) → before + (all + was) ≡ parts + now → (before + was) - now ≡ parts - all
left_moved before parts was now all same = omega (arith, same)

-- where parts were left before, what is taken and what was there tell how many are left
pub put_moves : (before parts : ℕ) (new : Extent) (xs : List Extent) → AreRising xs → before ≡ parts - sum_by parts_of xs → 0 < before
    → before + (sum_by parts_of (with_extent new xs) + parts_at new.number xs) ≡ parts + parts_of new
put_moves before parts new xs rising left some = omega (arith, sum_with new xs rising, left, some)

pub take_moves : (before parts n : ℕ) (xs : List Extent) → AreRising xs → before ≡ parts - sum_by parts_of xs → 0 < before
    → before + (sum_by parts_of (without n xs) + parts_at n xs) ≡ parts + 0
take_moves before parts n xs rising left some = omega (arith, sum_without n xs rising, left, some)
