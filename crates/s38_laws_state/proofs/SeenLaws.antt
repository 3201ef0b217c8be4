-- Objects that are in order as lists, and as they are looked for by number, are the same.
use Rattle.std.proofs.Common.{◌<◌, ◌≤◌, ◌==◌, ◌∙◌, ◌∷◌, ◌≡◌, ◌≢◌, Bool, List, [], ap, arith, cond, false, map, refl, subst, suc, sym, true, zero, ℕ}
use Rattle.std.proofs.lemmas.Bool.Decides.{nat_tests}
use Rattle.std.proofs.lemmas.List.Elements.{All-cons, All-head, All-nil, All-tail}
use Rattle.std.proofs.lemmas.Map.Keys.{IsStrictlyIncreasing-from_sorted, sorted_from_strictly_increasing, sorted_head, sorted_tail}
use Rattle.std.specs.List.Sorted.{IsStrictlySortedBy}
use Rattle.std.specs.List.{AllByRecursion}
use Rattle.std.specs.Ordering.{nat_cmp}
use Rattle.std.specs.Prelude.{All, None, Option, Some}
use Rattle.std.specs.declared.cmp.Ordering.TheVariants.{Less}
use Rattle.s38_base.specs.Limits.{machine_context}
use Rattle.s38_base.specs.declared.id.Kind.TheVariants as kinds
use Rattle.s38_objects.proofs.NameLaws.{in_that_context, named_other_way}
use Rattle.s38_objects.specs.Lawful.{AreApart, IsObjectMap, number_of}
use Rattle.s38_laws_images.specs.openings.Fitting.{FitTogether, IsPlaced, IsUser}
use Rattle.s38_laws_images.specs.openings.Opening.{IsNumbered}
use Rattle.s38_rules.proofs.ChargeLaws.{found_number}
use Rattle.s38_rules.specs.families.Creation.{is_of_kind}
use Rattle.s38_rules.specs.state.Held.{Held, found_in, has_number, is_named, is_there, object, object_in}
use Rattle.s38_rules.specs.declared.object.Object.{Object}
use Rattle.s38_laws_state.proofs.FitTogetherLaws.{Fits}
use Rattle.s38_laws_state.proofs.RiseLaws.{Below, Rise, rise_given}
use Rattle.s38_laws_state.proofs.HeadLaws.{below_found, found_object, given_in, not_named}

-- ---- numbers

below_by : (n : ℕ) (os : List Object) → AllByRecursion (λ k. nat_cmp n k ≡ Less) (map number_of os) → Below n os
below_by n [] above = tt
below_by n (o ∷ os) above = let here : nat_cmp n o.number.0 ≡ Less = above.0 in (grind (arith, nat_tests), below_by n os above.1)

pub rise_by : (next : ℕ) (os : List Object) → IsStrictlySortedBy nat_cmp (map number_of os) → All (λ o. number_of o < next) os → Rise next os
rise_by next [] rising given = tt
rise_by next (o ∷ os) rising given = (
  All-head (λ (x : Object). number_of x < next) o os given,
  below_by o.number.0 os (sorted_head nat_cmp o.number.0 (map number_of os) rising),
  rise_by next os (sorted_tail nat_cmp o.number.0 (map number_of os) rising) (All-tail (λ (x : Object). number_of x < next) o os given),
)

by_below : (n : ℕ) (os : List Object) → Below n os → AllByRecursion (λ k. nat_cmp n k ≡ Less) (map number_of os)
by_below n [] below = tt
by_below n (o ∷ os) below = (less n o.number.0 below.0, by_below n os below.1)
  where
    less : (a b : ℕ) → a < b → nat_cmp a b ≡ Less
    less a b h = grind (arith, nat_tests, h)

by_rise : (next : ℕ) (os : List Object) → Rise next os → IsStrictlySortedBy nat_cmp (map number_of os)
unfolding IsStrictlySortedBy
by_rise next [] rise = tt
by_rise next (o ∷ os) rise = (by_below o.number.0 os rise.1, by_rise next os rise.2)

-- what is found is above what all are above
pub below_number : (n : ℕ) (os : List Object) (k : ℕ) (o : Object) → Below n os → object_in os k ≡ Some o → n < o.number.0
below_number n [] k o below at = cc
below_number n (x ∷ os) k o below at = by (below_number n os k o below.1) (has_number k x) at
  where
    same : Some x ≡ Some o → x ≡ o
    same g = cc

    by : (object_in os k ≡ Some o → n < o.number.0) → (b : Bool) → cond b (Some x) (object_in os k) ≡ Some o → n < o.number.0
    by rest true q = subst (λ (y : Object). n < y.number.0) (same q) below.0
    by rest false q = rest q

apart_numbers : (a b : ℕ) → a < b → (a == b) ≡ false
apart_numbers a b less = grind (arith, nat_tests, less)

-- an object after the first is found by its number beside it
behind_first : (next : ℕ) (x : Object) (os : List Object) (o : Object) → Rise next (x ∷ os) → object_in os o.number.0 ≡ Some o → object_in (x ∷ os) o.number.0 ≡ Some o
behind_first next x os o rise at = ap (λ b. cond b (Some x) (object_in os o.number.0)) (apart_numbers x.number.0 o.number.0 (below_number x.number.0 os o.number.0 o rise.1 at)) ∙ at

first_found : (x : Object) (os : List Object) → object_in (x ∷ os) x.number.0 ≡ Some x
first_found x os = ap (λ b. cond b (Some x) (object_in os x.number.0)) (itself x.number.0)
  where
    itself : (n : ℕ) → (n == n) ≡ true
    itself n = grind (arith, nat_tests)

-- what is true of all that is found by its number is true of all
pub each_found : (P : Object → Type 0) (next : ℕ) (os : List Object) → Rise next os → ((o : Object) → object_in os o.number.0 ≡ Some o → P o) → All P os
each_found P next [] rise holds = All-nil P
each_found P next (x ∷ os) rise holds =
    All-cons P x os (holds x (first_found x os)) (each_found P next os rise.2 (λ o at. holds o (behind_first next x os o rise at)))

pub found_all : (P : Object → Type 0) (os : List Object) (n : ℕ) (o : Object) → All P os → object_in os n ≡ Some o → P o
found_all P [] n o all at = cc
found_all P (x ∷ os) n o all at = by (found_all P os n o (All-tail P x os all)) (has_number n x) at
  where
    same : Some x ≡ Some o → x ≡ o
    same g = cc

    by : (object_in os n ≡ Some o → P o) → (b : Bool) → cond b (Some x) (object_in os n) ≡ Some o → P o
    by rest true q = subst P (same q) (All-head P x os all)
    by rest false q = rest q

-- ---- names

true_false : (b : Bool) → b ≡ true → b ≡ false → ⊥
true_false b h g = cc

told_in : (contexts : ℕ → Bool) (os : List Object) → AreApart contexts os → (n m : ℕ) (x y : Object) → object_in os n ≡ Some x → object_in os m ≡ Some y → n ≢ m → contexts x.context.0 ≡ true → is_named x.context.0 x.id y ≡ false
told_in contexts [] apart n m x y at to away there = cc
told_in contexts (o ∷ os) apart n m x y at to away there = by (told_in contexts os apart.1 n m x y) (has_number n o) refl (has_number m o) refl at to
  where
    same_number : (k : ℕ) → has_number k o ≡ true → o.number.0 ≡ k
    same_number k h = grind (arith, nat_tests)

    is_it : (z : Object) → Some o ≡ Some z → o ≡ z
    is_it z g = cc

    -- the first has no name of a later one, nor a later one that of the first
    later : (z : Object) (k : ℕ) → object_in os k ≡ Some z → contexts o.context.0 ≡ true → is_named o.context.0 o.id z ≡ false
    later z k found here = not_named o.context.0 o.id os k z (apart.0 here) found

    back : (z : Object) (k : ℕ) → object_in os k ≡ Some z → contexts z.context.0 ≡ true → (b : Bool) → is_named z.context.0 z.id o ≡ b → b ≡ false
    back z k found here true named = absurd (true_false (is_named o.context.0 o.id z) (named_other_way o z named)
        (later z k found (subst (λ (c : ℕ). contexts c ≡ true) (sym (in_that_context o z.context.0 z.id named)) here)))
    back z k found here false named = refl

    by : (object_in os n ≡ Some x → object_in os m ≡ Some y → n ≢ m → contexts x.context.0 ≡ true → is_named x.context.0 x.id y ≡ false) → (a : Bool) → has_number n o ≡ a → (b : Bool) → has_number m o ≡ b
        → cond a (Some o) (object_in os n) ≡ Some x → cond b (Some o) (object_in os m) ≡ Some y → is_named x.context.0 x.id y ≡ false
    by rest true p true q f g = absurd (away (sym (same_number n p) ∙ same_number m q))
    by rest true p false q f g =
        let same = is_it x f in
        subst (λ (z : Object). is_named z.context.0 z.id y ≡ false) same (later y m g (subst (λ (z : Object). contexts z.context.0 ≡ true) (sym same) there))
    by rest false p true q f g =
        let same = is_it y g in
        subst (λ (z : Object). is_named x.context.0 x.id z ≡ false) same (back x n f there (is_named x.context.0 x.id o) refl)
    by rest false p false q f g = rest f g away there

apart_by : (contexts : ℕ → Bool) (next : ℕ) (os : List Object) → Rise next os
    → ((x y : Object) → object_in os x.number.0 ≡ Some x → object_in os y.number.0 ≡ Some y → x.number.0 < y.number.0 → contexts x.context.0 ≡ true → is_named x.context.0 x.id y ≡ false) → AreApart contexts os
apart_by contexts next [] rise told = tt
apart_by contexts next (o ∷ os) rise told = (
  λ there. first (found_in os o.context.0 o.id) refl there,
  apart_by contexts next os rise.2 (λ x y at to less there. told x y (behind_first next o os x rise at) (behind_first next o os y rise to) less there),
)
  where
    first : (r : Option Object) → found_in os o.context.0 o.id ≡ r → contexts o.context.0 ≡ true → r ≡ None
    first None named there = refl
    first (Some y) named there =
        let known = found_object next os o.context.0 o.id y rise.2 named in
        absurd (true_false (is_named o.context.0 o.id y) known.1 (told o y (first_found o os) (behind_first next o os y rise known.0) (below_found o.number.0 os o.context.0 o.id y rise.1 named) there))

-- ---- both

pub seen : (U : ℕ → Type 0) (h : Held) → IsObjectMap h → All IsNumbered h.objects → FitTogether h → ((u : ℕ) → U u → IsUser h u) → Fits U h
seen U h lawful numbered fit users = record {
  rise = rise;
  unused = unused (object h 0) refl;
  next = next (object h machine_context) refl fit.machine;
  told = λ n m x y at to away there. told_in (is_there h) h.objects lawful.apart n m x y at to away there;
  each = λ n o at. found_all (IsPlaced h) h.objects n o fit.placed at;
  machine = fit.machine;
  below = fit.below;
  users = users;
}
  where
    rise : Rise h.next h.objects
    rise = rise_by h.next h.objects (sorted_from_strictly_increasing (map number_of h.objects) lawful.rising) lawful.given

    unused : (r : Option Object) → object h 0 ≡ r → r ≡ None
    unused None at = refl
    unused (Some o) at = absurd (none o.number.0 (found_number 0 o h.objects at) (found_all IsNumbered h.objects 0 o numbered at))
      where
        none : (n : ℕ) → n ≡ 0 → 1 ≤ n → ⊥
        none n is some = omega (arith, is, some)

    next : (r : Option Object) → object h machine_context ≡ r → is_of_kind kinds.Context r ≡ true → 1 ≤ h.next
    next None at is = cc
    next (Some o) at is = some o.number.0 (given_in h.next machine_context h.objects o lawful.given at)
      where
        some : (n : ℕ) → n < h.next → 1 ≤ h.next
        some n less = omega (arith, less)

pub unseen : (U : ℕ → Type 0) (h : Held) → Fits U h → IsObjectMap h × All IsNumbered h.objects × FitTogether h
unseen U h fits = (
  record {
    rising = IsStrictlyIncreasing-from_sorted (map number_of h.objects) (by_rise h.next h.objects fits.rise);
    given = rise_given h.next h.objects fits.rise;
    apart = apart_by (is_there h) h.next h.objects fits.rise (λ x y at to less there. fits.told x.number.0 y.number.0 x y at to (λ same. low x.number.0 y.number.0 less same) there);
  },
  each_found IsNumbered h.next h.objects fits.rise (λ o at. numbered o o.number.0 at),
  record { placed = each_found (IsPlaced h) h.next h.objects fits.rise (λ o at. fits.each o.number.0 o at); machine = fits.machine; below = fits.below },
)
  where
    low : (a b : ℕ) → a < b → a ≡ b → ⊥
    low a b less same = omega (arith, less, same)

    numbered : (o : Object) (n : ℕ) → object h n ≡ Some o → 1 ≤ n
    numbered o zero at = absurd (none (sym fits.unused ∙ at))
      where
        none : None ≡ Some o → ⊥
        none g = cc
    numbered o (suc n) at = omega arith
