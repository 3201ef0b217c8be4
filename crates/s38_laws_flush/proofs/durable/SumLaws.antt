-- Sums over rising numbers, where each number is that of one object at most.
use Rattle.std.proofs.Common.{◌≡◌, ◌+◌, ◌<◌, ◌==◌, ◌≤◌, ◌∷◌, [], Bool, List, None, Option, Some, ap, arith, cond, false, refl, subst, sym, true, ℕ}
use Rattle.std.proofs.lemmas.Bool.Decides.{nat_tests}
use Rattle.std.proofs.lemmas.List.Sums.{sum_by-cons}
use Rattle.std.specs.List.{AllByRecursion}
use Rattle.std.specs.Prelude.{sum_by}
use Rattle.s38_commits.proofs.MapLaws.{nat_same}
use Rattle.s38_rules.specs.state.Held.{object_in}
use Rattle.s38_rules.specs.declared.object.Object.{Object}
use Rattle.s38_flush.proofs.NumberLaws.{AreAbove, Rise}

-- what an object adds, if there is one
abbrev pub in_case : (Object → ℕ) → Option Object → ℕ
in_case f None = 0
in_case f (Some o) = f o

abbrev pub found_sum : (Object → ℕ) → List Object → List ℕ → ℕ
found_sum f os ns = sum_by (λ n. in_case f (object_in os n)) ns

none_sum : (f : Object → ℕ) (ns : List ℕ) → found_sum f [] ns ≡ 0
none_sum f [] = refl
none_sum f (n ∷ ns) = let rest = none_sum f ns in let sum = sum_by-cons (λ k. in_case f (object_in [] k)) n ns in omega (arith, rest, sum)

above_all : (a n : ℕ) (ns : List ℕ) → a < n → AreAbove n ns → AreAbove a ns
unfolding AreAbove
above_all a n [] less h = tt
above_all a n (m ∷ ms) less h = (omega (arith, h.0), above_all a n ms less h.1)

-- numbers above that of an object do not lead to it
passed : (f : Object → ℕ) (o : Object) (os : List Object) (ns : List ℕ) → AreAbove o.number.0 ns → found_sum f (o ∷ os) ns ≡ found_sum f os ns
unfolding AreAbove
passed f o os [] above = refl
passed f o os (n ∷ ns) above =
    let off : (o.number.0 == n) ≡ false = apart o.number.0 n above.0 in
    let here : in_case f (object_in (o ∷ os) n) ≡ in_case f (object_in os n) = ap (λ b. in_case f (cond b (Some o) (object_in os n))) off in
    let rest : found_sum f (o ∷ os) ns ≡ found_sum f os ns = passed f o os ns above.1 in
    let left = sum_by-cons (λ k. in_case f (object_in (o ∷ os) k)) n ns in
    let right = sum_by-cons (λ k. in_case f (object_in os k)) n ns in
    omega (arith, here, rest, left, right)
  where
    apart : (a b : ℕ) → a < b → (a == b) ≡ false
    apart a b less = grind (arith, nat_tests)

-- one object more adds at most what it adds
one_more : (f : Object → ℕ) (o : Object) (os : List Object) (ns : List ℕ) → Rise ns → found_sum f (o ∷ os) ns ≤ f o + found_sum f os ns
unfolding Rise
one_more f o os [] rise = omega arith
one_more f o os (n ∷ ns) rise = by (one_more f o os ns rise.1) (o.number.0 == n) refl
  where
    left : found_sum f (o ∷ os) (n ∷ ns) ≡ in_case f (object_in (o ∷ os) n) + found_sum f (o ∷ os) ns
    left = sum_by-cons (λ k. in_case f (object_in (o ∷ os) k)) n ns

    right : found_sum f os (n ∷ ns) ≡ in_case f (object_in os n) + found_sum f os ns
    right = sum_by-cons (λ k. in_case f (object_in os k)) n ns

    by : found_sum f (o ∷ os) ns ≤ f o + found_sum f os ns → (b : Bool) → (o.number.0 == n) ≡ b → found_sum f (o ∷ os) (n ∷ ns) ≤ f o + found_sum f os (n ∷ ns)
    by more true is =
        let same : o.number.0 ≡ n = nat_same o.number.0 n is in
        let here : in_case f (object_in (o ∷ os) n) ≡ f o = ap (λ b. in_case f (cond b (Some o) (object_in os n))) is in
        let rest : found_sum f (o ∷ os) ns ≡ found_sum f os ns = passed f o os ns (subst (λ (k : ℕ). AreAbove k ns) (sym same) rise.0) in
        omega (arith, here, rest, left, right)
    by more false is =
        let here : in_case f (object_in (o ∷ os) n) ≡ in_case f (object_in os n) = ap (λ b. in_case f (cond b (Some o) (object_in os n))) is in
        omega (arith, here, more, left, right)

-- what the objects of some rising numbers add is no more than what all objects add
pub found_few : (f : Object → ℕ) (os : List Object) (ns : List ℕ) → Rise ns → found_sum f os ns ≤ sum_by f os
found_few f [] ns rise = let none = none_sum f ns in omega (arith, none)
found_few f (o ∷ os) ns rise =
    let first = one_more f o os ns rise in
    let rest = found_few f os ns rise in
    let sum = sum_by-cons f o os in
    omega (arith, first, rest, sum)

-- number by number
pub sum_most : (f g : ℕ → ℕ) (ns : List ℕ) → (P : ℕ → Type 0) → ((n : ℕ) → P n → f n ≤ g n) → AllByRecursion P ns → sum_by f ns ≤ sum_by g ns
sum_most f g [] P each h = omega arith
sum_most f g (n ∷ ns) P each h =
    let here = each n h.0 in
    let rest = sum_most f g ns P each h.1 in
    let left = sum_by-cons f n ns in
    let right = sum_by-cons g n ns in
    omega (arith, here, rest, left, right)
