-- How many parts are new in all: those of the objects of which something must persist.
use Rattle.std.proofs.Common.{◌≡◌, ℕ, ◌+◌, ◌==◌, Bool, true, false, cond, List, [], ◌∷◌, refl, sym, ◌∙◌, ap, subst, arith}
use Rattle.std.proofs.lemmas.Bool.Decides.{nat_tests}
use Rattle.std.proofs.lemmas.List.Sums.{sum_by-cons}
use Rattle.std.specs.Prelude.{◌||◌, Option, Some, None, sum_by}
use Rattle.s38_laws_objects.specs.Outline.{is_forced}
use Rattle.s38_rules.proofs.ChargeLaws.{found_number}
use Rattle.s38_rules.specs.declared.object.Object.{Object}
use Rattle.s38_rules.specs.store.Forcing.{Ceiling, Forced, Header, Removed, Whole, extent_after, new_parts, new_parts_of}
use Rattle.s38_rules.specs.state.Held.{Held, has_number, object_in}
use Rattle.s38_rules.specs.store.Room.{Extent, Room, extent_at, more_parts}
use Rattle.s38_space_map.proofs.ExtentLaws.{number_same}
use Rattle.s38_space_rules.proofs.FollowLaws.{unforced_kept}
use Rattle.s38_space_rules.proofs.NumberLaws.{AreNumbered, Below, Rise}
use Rattle.s38_space_rules.specs.Following.{FitsBut, kept_extent}

-- what is counted of an object, if there is one
abbrev pub at_object : (Object → ℕ) → Option Object → ℕ
at_object g None = 0
at_object g (Some o) = g o

-- of the objects of which something must persist, each once
abbrev pub counted_one : (Object → ℕ) → List Object → ℕ → List Forced → ℕ
counted_one g os n more = cond (is_forced n more) 0 (at_object g (object_in os n))

abbrev pub counted : (Object → ℕ) → List Object → List Forced → ℕ
counted g os [] = 0
counted g os (Ceiling ∷ more) = counted g os more
counted g os (Header n ∷ more) = counted_one g os n more + counted g os more
counted g os (Whole n ∷ more) = counted_one g os n more + counted g os more
counted g os (Removed n ∷ more) = counted_one g os n more + counted g os more

-- ---- sums

pub sum_same : (f g : Object → ℕ) (os : List Object) → ((o : Object) → f o ≡ g o) → sum_by f os ≡ sum_by g os
sum_same f g [] same = refl
sum_same f g (o ∷ os) same = omega (arith, sum_by-cons f o os, sum_by-cons g o os, same o, sum_same f g os same)

sum_none : (f : Object → ℕ) (os : List Object) → ((o : Object) → f o ≡ 0) → sum_by f os ≡ 0
sum_none f [] none = refl
sum_none f (o ∷ os) none = omega (arith, sum_by-cons f o os, none o, sum_none f os none)

sum_both : (f g : Object → ℕ) (os : List Object) → sum_by (λ o. f o + g o) os ≡ sum_by f os + sum_by g os
sum_both f g [] = refl
sum_both f g (o ∷ os) = omega (arith, sum_by-cons f o os, sum_by-cons g o os, sum_by-cons (λ (x : Object). f x + g x) o os, sum_both f g os)

abbrev only : ℕ → (Object → ℕ) → Object → ℕ
only n g o = cond (has_number n o) (g o) 0

sum_below : (n : ℕ) (g : Object → ℕ) (os : List Object) → Below n os → sum_by (only n g) os ≡ 0
sum_below n g [] below = refl
sum_below n g (o ∷ os) below =
    let other : (o.number.0 == n) ≡ false = grind (arith, nat_tests, below.0) in
    let here : only n g o ≡ 0 = rw other refl in
    omega (arith, sum_by-cons (only n g) o os, here, sum_below n g os below.1)

sum_only : (n next : ℕ) (g : Object → ℕ) (os : List Object) → Rise next os → sum_by (only n g) os ≡ at_object g (object_in os n)
sum_only n next g [] rise = refl
sum_only n next g (o ∷ os) rise = sum_by-cons (only n g) o os ∙ by (sum_only n next g os rise.2) (has_number n o) refl
  where
    by : sum_by (only n g) os ≡ at_object g (object_in os n) → (b : Bool) → has_number n o ≡ b → cond b (g o) 0 + sum_by (only n g) os ≡ at_object g (cond b (Some o) (object_in os n))
    by rest true is =
        let none = sum_below n g os (subst (λ (k : ℕ). Below k os) (number_same o.number.0 n is) rise.1) in
        omega (arith, none)
    by rest false is = omega (arith, rest)

-- ---- what is counted of those that must persist

abbrev anew : (Object → ℕ) → List Forced → Object → ℕ
anew g all o = cond (is_forced o.number.0 all) (g o) 0

flipped : (a b : ℕ) → (a == b) ≡ (b == a)
flipped a b = by (a == b) refl
  where
    by : (c : Bool) → (a == b) ≡ c → c ≡ (b == a)
    by true is = let here : a ≡ b = grind (arith, nat_tests) in rw here (grind (arith, nat_tests))
    by false is = grind (arith, nat_tests)

-- one more is counted unless it is counted later
one_counted : (g : Object → ℕ) (n next : ℕ) (more : List Forced) (os : List Object) → Rise next os
    → sum_by (λ o. cond ((n == o.number.0) || is_forced o.number.0 more) (g o) 0) os ≡ counted_one g os n more + sum_by (anew g more) os
one_counted g n next more os rise =
    sum_same (λ o. cond ((n == o.number.0) || is_forced o.number.0 more) (g o) 0) (λ o. first o + anew g more o) os each
    ∙ sum_both first (anew g more) os
    ∙ ap (λ (k : ℕ). k + sum_by (anew g more) os) (by (is_forced n more))
  where
    first : Object → ℕ
    first o = cond (is_forced n more) 0 (only n g o)

    each : (o : Object) → cond ((n == o.number.0) || is_forced o.number.0 more) (g o) 0 ≡ first o + anew g more o
    each o = rw (flipped n o.number.0) (split (o.number.0 == n) refl (is_forced n more) refl (is_forced o.number.0 more) refl)
      where
        split : (b : Bool) → (o.number.0 == n) ≡ b → (a : Bool) → is_forced n more ≡ a → (c : Bool) → is_forced o.number.0 more ≡ c
            → cond (b || c) (g o) 0 ≡ cond a 0 (cond b (g o) 0) + cond c (g o) 0
        split true is true a true c = omega arith
        split true is true a false c = absurd (apart (sym a ∙ ap (λ (k : ℕ). is_forced k more) (sym (number_same o.number.0 n is)) ∙ c))
          where
            apart : true ≡ false → ⊥
            apart h = cc
        split true is false a true c = absurd (apart (sym c ∙ ap (λ (k : ℕ). is_forced k more) (number_same o.number.0 n is) ∙ a))
          where
            apart : true ≡ false → ⊥
            apart h = cc
        split true is false a false c = omega arith
        split false is true a c e = omega arith
        split false is false a c e = omega arith

    by : (a : Bool) → sum_by (λ o. cond a 0 (only n g o)) os ≡ cond a 0 (at_object g (object_in os n))
    by true = sum_none (λ o. 0) os (λ o. refl)
    by false = sum_only n next g os rise

all_counted : (g : Object → ℕ) (next : ℕ) (all : List Forced) (os : List Object) → Rise next os → sum_by (anew g all) os ≡ counted g os all
all_counted g next [] os rise = sum_none (λ o. 0) os (λ o. refl)
all_counted g next (Ceiling ∷ more) os rise = all_counted g next more os rise
all_counted g next (Header n ∷ more) os rise = one_counted g n next more os rise ∙ ap (λ (k : ℕ). counted_one g os n more + k) (all_counted g next more os rise)
all_counted g next (Whole n ∷ more) os rise = one_counted g n next more os rise ∙ ap (λ (k : ℕ). counted_one g os n more + k) (all_counted g next more os rise)
all_counted g next (Removed n ∷ more) os rise = one_counted g n next more os rise ∙ ap (λ (k : ℕ). counted_one g os n more + k) (all_counted g next more os rise)

-- ---- of the others nothing is counted

abbrev IsQuiet : (Object → ℕ) → List Forced → List Object → Type 0
IsQuiet g all os = (m : ℕ) (o : Object) → object_in os m ≡ Some o → is_forced m all ≡ false → g o ≡ 0

none_below : (n : ℕ) (os : List Object) → Below n os → object_in os n ≡ None
none_below n [] below = refl
none_below n (o ∷ os) below =
    let other : (o.number.0 == n) ≡ false = grind (arith, nat_tests, below.0) in
    rw other (none_below n os below.1)

quiet_later : (g : Object → ℕ) (all : List Forced) (next : ℕ) (o : Object) (os : List Object) → Rise next (o ∷ os) → IsQuiet g all (o ∷ os) → IsQuiet g all os
quiet_later g all next o os rise quiet m x found unforced = by (o.number.0 == m) refl
  where
    nothing : object_in os m ≡ None → ⊥
    nothing none = cc

    by : (b : Bool) → (o.number.0 == m) ≡ b → g x ≡ 0
    by true is = absurd (nothing (none_below m os (subst (λ (k : ℕ). Below k os) (number_same o.number.0 m is) rise.1)))
    by false is = quiet m x (rw is found) unforced

itself : (n : ℕ) → (n == n) ≡ true
itself n = grind (arith, nat_tests)

quiet_sum : (g : Object → ℕ) (all : List Forced) (next : ℕ) (os : List Object) → Rise next os → IsQuiet g all os → sum_by g os ≡ sum_by (anew g all) os
quiet_sum g all next [] rise quiet = refl
quiet_sum g all next (o ∷ os) rise quiet =
    let rest = quiet_sum g all next os rise.2 (quiet_later g all next o os rise quiet) in
    let here : g o ≡ anew g all o = by (is_forced o.number.0 all) refl in
    omega (arith, sum_by-cons g o os, sum_by-cons (anew g all) o os, rest, here)
  where
    by : (b : Bool) → is_forced o.number.0 all ≡ b → g o ≡ cond b (g o) 0
    by true is = refl
    by false is = quiet o.number.0 o (rw (itself o.number.0) refl) is

-- ---- new parts

abbrev pub more_in : Option Extent → Option Extent → ℕ
more_in old None = 0
more_in old (Some new) = more_parts old new

more_same : (x : Option Extent) → more_in x x ≡ 0
more_same None = refl
more_same (Some x) = omega arith

pub new_by : (room : Room) (all : List Forced) (o : Object) → new_parts_of room all o ≡ more_in (extent_at room.extents o.number.0) (kept_extent all (extent_at room.extents o.number.0) (Some o))
new_by room all o = by o.on_disk
  where
    by : (b : Bool) → cond b (more_parts (extent_at room.extents o.number.0) (extent_after all (extent_at room.extents o.number.0) o)) 0
        ≡ more_in (extent_at room.extents o.number.0) (cond b (Some (extent_after all (extent_at room.extents o.number.0) o)) None)
    by true = refl
    by false = refl

quiet_by : (room : Room) (all : List Forced) (h : Held) → FitsBut all room.extents h → IsQuiet (new_parts_of room all) all h.objects
quiet_by room all h fits m o found unforced =
    new_by room all o
    ∙ subst (λ (k : ℕ). more_in (extent_at room.extents k) (kept_extent all (extent_at room.extents k) (Some o)) ≡ 0) (sym (found_number m o h.objects found))
    (ap (more_in (extent_at room.extents m)) (ap (kept_extent all (extent_at room.extents m)) (sym found) ∙ unforced_kept all room.extents h.objects m unforced (fits.rows m unforced))
    ∙ more_same (extent_at room.extents m))

-- the new parts are those of the objects of which something must persist
pub parts_counted : (room : Room) (all : List Forced) (h : Held) → AreNumbered h → FitsBut all room.extents h → new_parts room all h.objects ≡ counted (new_parts_of room all) h.objects all
parts_counted room all h numbered fits =
    quiet_sum (new_parts_of room all) all h.next h.objects numbered (quiet_by room all h fits) ∙ all_counted (new_parts_of room all) h.next all h.objects numbered
