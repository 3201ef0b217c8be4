-- Objects that are looked for by number, and what users pay for, after one object was changed, added or taken out.
use Rattle.std.proofs.Common.{◌≡◌, ℕ, ◌+◌, ◌<◌, ◌≤◌, ◌==◌, true, false, cond, not, List, [], ◌∷◌, ◌++◌, map, refl, sym, ◌∙◌, ap, subst, arith}
use Rattle.std.proofs.lemmas.Bool.Decides.{nat_tests}
use Rattle.std.proofs.lemmas.List.Sums.{sum_by-cons, sum_by-append}
use Rattle.std.proofs.lemmas.List.Elements.{All-head, All-tail}
use Rattle.std.proofs.lemmas.Map.Keys.{sorted_from_strictly_increasing, sorted_head, sorted_tail}
use Rattle.std.specs.Prelude.{All, Option, Some, None}
use Rattle.std.specs.Option.{option_map}
use Rattle.std.specs.Ordering.{nat_cmp}
use Rattle.std.specs.declared.cmp.Ordering.TheVariants.{Less}
use Rattle.std.specs.List.{AllByRecursion}
use Rattle.std.specs.List.Sorted.{IsStrictlyIncreasing, IsStrictlySortedBy}
use Rattle.s38_base.specs.declared.id.ObjNum.{ObjNum}
use Rattle.s38_rules.specs.declared.object.Body.{Body}
use Rattle.s38_rules.specs.declared.object.Body.TheVariants as bodies
use Rattle.s38_rules.specs.declared.object.Object.{Object}
use Rattle.s38_rules.specs.state.Held.{change_in, charge_beside, charge_in, object_in, owner_in, pages_for, pages_of, without_in}

abbrev pub number_of : Object → ℕ
number_of o = o.number.0

-- a change leaves the number
abbrev pub KeepsNumber : (Object → Object) → Type 0
KeepsNumber f = (o : Object) → (f o).number ≡ o.number

some_same : (x y : Object) → Some x ≡ Some y → x ≡ y
some_same x y h = cc

some_none : (x : Object) → Some x ≡ None → ⊥
some_none x h = cc

-- ---- what a user pays for

pub charge_first : (user : ℕ) (o : Object) (os : List Object) → charge_in (o ∷ os) user ≡ pages_for user o + charge_in os user
unfolding charge_in
charge_first user o os = sum_by-cons (pages_for user) o os

pub charge_none : (user : ℕ) → charge_in [] user ≡ 0
unfolding charge_in
charge_none user = refl

pub charge_both : (user : ℕ) (os more : List Object) → charge_in (os ++ more) user ≡ charge_in os user + charge_in more user
unfolding charge_in
charge_both user os more = sum_by-append (pages_for user) os more

pub charge_last : (user : ℕ) (o : Object) (os : List Object) → charge_in (os ++ o ∷ []) user ≡ charge_in os user + pages_for user o
charge_last user o os = omega (arith, charge_both user os (o ∷ []), charge_first user o [], charge_none user)

pub own_pages : (o : Object) → pages_for o.owner.0 o ≡ pages_of o.body
own_pages o = let self : (o.owner.0 == o.owner.0) ≡ true = grind (arith, nat_tests) in rw self refl

pub other_pages : (user : ℕ) (o : Object) → (o.owner.0 == user) ≡ false → pages_for user o ≡ 0
other_pages user o h = rw h refl

pub some_page : (b : Body) → 1 ≤ pages_of b
some_page (bodies.Space cells) = omega arith
some_page _ = omega arith

-- what is paid for an object that is there is paid
pub pages_within : (n user : ℕ) (o : Object) (os : List Object) → object_in os n ≡ Some o → pages_for user o ≤ charge_in os user
pages_within n user o [] h = absurd (some_none o (sym h))
pages_within n user o (x ∷ os) h =
    let rest = pages_within n user o os in
    elim (x.number.0 == n) as (λ a. cond a (Some x) (object_in os n) ≡ Some o → pages_for user o ≤ charge_in (x ∷ os) user) [
      | true ↦ λ q. subst (λ (y : Object). pages_for user y ≤ charge_in (x ∷ os) user) (some_same x o q) (omega (arith, charge_first user x os))
      | false ↦ λ q. omega (arith, charge_first user x os, rest q)
    ] h

-- what is found by a number has it
pub found_number : (n : ℕ) (o : Object) (os : List Object) → object_in os n ≡ Some o → o.number.0 ≡ n
found_number n o [] h = absurd (some_none o (sym h))
found_number n o (x ∷ os) h =
    let rest = found_number n o os in
    elim (x.number.0 == n) as (λ a. (x.number.0 == n) ≡ a → cond a (Some x) (object_in os n) ≡ Some o → o.number.0 ≡ n) [
      | true ↦ λ p q. let here : x.number.0 ≡ n = grind (arith, nat_tests) in subst (λ (y : Object). y.number.0 ≡ n) (some_same x o q) here
      | false ↦ λ p q. rest q
    ] refl h

-- ---- one object is another one

pub object_changed : (n m : ℕ) (f : Object → Object) (os : List Object) → KeepsNumber f
    → object_in (change_in os n f) m ≡ cond (n == m) (option_map f (object_in os m)) (object_in os m)
object_changed n m f [] keeps = elim (n == m) as (λ b. ◌≡◌ {A = Option Object} None (cond b None None)) [ true ↦ refl | false ↦ refl ]
object_changed n m f (o ∷ os) keeps =
    let rest = object_changed n m f os keeps in
    elim (o.number.0 == n) as (λ a. (o.number.0 == n) ≡ a → object_in (cond a (f o ∷ os) (o ∷ change_in os n f)) m ≡ cond (n == m) (option_map f (object_in (o ∷ os) m)) (object_in (o ∷ os) m)) [
      | true ↦ λ q.
          let there : ((f o).number.0 == m) ≡ (o.number.0 == m) = ap (λ (k : ObjNum). k.0 == m) (keeps o) in
          let same : (n == m) ≡ (o.number.0 == m) = grind (arith, nat_tests) in
          rw (there, same)
          (elim (o.number.0 == m) as (λ c. cond c (Some (f o)) (object_in os m) ≡ cond c (option_map f (cond c (Some o) (object_in os m))) (cond c (Some o) (object_in os m))) [ true ↦ refl | false ↦ refl ])
      | false ↦ λ q.
          elim (o.number.0 == m) as (λ c. (o.number.0 == m) ≡ c → cond c (Some o) (object_in (change_in os n f) m) ≡ cond (n == m) (option_map f (cond c (Some o) (object_in os m))) (cond c (Some o) (object_in os m))) [
            | true ↦ λ p. let other : (n == m) ≡ false = grind (arith, nat_tests) in rw other refl
            | false ↦ λ p. rest
          ] refl
    ] refl

pub change_absent : (n : ℕ) (f : Object → Object) (os : List Object) → object_in os n ≡ None → change_in os n f ≡ os
change_absent n f [] h = refl
change_absent n f (o ∷ os) h =
    elim (o.number.0 == n) as (λ a. cond a (Some o) (object_in os n) ≡ None → cond a (f o ∷ os) (o ∷ change_in os n f) ≡ o ∷ os) [
      | true ↦ λ q. absurd (some_none o q)
      | false ↦ λ q. ap (λ (l : List Object). o ∷ l) (change_absent n f os q)
    ] h

pub charge_changed : (user n : ℕ) (f : Object → Object) (o : Object) (os : List Object) → object_in os n ≡ Some o
    → charge_in (change_in os n f) user + pages_for user o ≡ charge_in os user + pages_for user (f o)
charge_changed user n f o [] h = absurd (some_none o (sym h))
charge_changed user n f o (x ∷ os) h =
    let rest = charge_changed user n f o os in
    elim (x.number.0 == n) as (λ a. cond a (Some x) (object_in os n) ≡ Some o → charge_in (cond a (f x ∷ os) (x ∷ change_in os n f)) user + pages_for user o ≡ charge_in (x ∷ os) user + pages_for user (f o)) [
      | true ↦ λ q. subst (λ (y : Object). charge_in (f x ∷ os) user + pages_for user y ≡ charge_in (x ∷ os) user + pages_for user (f y)) (some_same x o q)
          (omega (arith, charge_first user x os, charge_first user (f x) os))
      | false ↦ λ q. omega (arith, charge_first user x os, charge_first user x (change_in os n f), rest q)
    ] h

pub charge_same : (user n : ℕ) (f : Object → Object) (os : List Object) → ((o : Object) → pages_for user (f o) ≡ pages_for user o) → charge_in (change_in os n f) user ≡ charge_in os user
charge_same user n f [] same = refl
charge_same user n f (x ∷ os) same =
    let rest = charge_same user n f os same in
    elim (x.number.0 == n) as (λ a. charge_in (cond a (f x ∷ os) (x ∷ change_in os n f)) user ≡ charge_in (x ∷ os) user) [
      | true ↦ omega (arith, charge_first user x os, charge_first user (f x) os, same x)
      | false ↦ omega (arith, charge_first user x os, charge_first user x (change_in os n f), rest)
    ]

-- ---- one object more

pub object_last : (m : ℕ) (o : Object) (os : List Object) → object_in os o.number.0 ≡ None
    → object_in (os ++ o ∷ []) m ≡ cond (o.number.0 == m) (Some o) (object_in os m)
object_last m o [] h = refl
object_last m o (x ∷ os) h =
    let rest = object_last m o os in
    elim (x.number.0 == o.number.0) as (λ a. (x.number.0 == o.number.0) ≡ a → cond a (Some x) (object_in os o.number.0) ≡ None → object_in (x ∷ (os ++ o ∷ [])) m ≡ cond (o.number.0 == m) (Some o) (object_in (x ∷ os) m)) [
      | true ↦ λ p q. absurd (some_none x q)
      | false ↦ λ p q.
          elim (x.number.0 == m) as (λ c. (x.number.0 == m) ≡ c → cond c (Some x) (object_in (os ++ o ∷ []) m) ≡ cond (o.number.0 == m) (Some o) (cond c (Some x) (object_in os m))) [
            | true ↦ λ r. let other : (o.number.0 == m) ≡ false = grind (arith, nat_tests) in rw other refl
            | false ↦ λ r. rest q
          ] refl
    ] refl h

-- a number above all that are there is that of none
pub object_above : (n next : ℕ) (os : List Object) → All (λ o. number_of o < next) os → next ≤ n → object_in os n ≡ None
object_above n next [] h high = refl
object_above n next (o ∷ os) h high =
    let first : o.number.0 < next = All-head (λ (x : Object). number_of x < next) o os h in
    let other : (o.number.0 == n) ≡ false = grind (arith, nat_tests) in
    rw other (object_above n next os (All-tail (λ (x : Object). number_of x < next) o os h) high)

-- ---- one object less

pub object_without : (n m : ℕ) (os : List Object) → object_in (without_in os n) m ≡ cond (n == m) None (object_in os m)
object_without n m [] = elim (n == m) as (λ b. ◌≡◌ {A = Option Object} None (cond b None None)) [ true ↦ refl | false ↦ refl ]
object_without n m (o ∷ os) =
    let rest = object_without n m os in
    elim (o.number.0 == n) as (λ a. (o.number.0 == n) ≡ a → object_in (cond (not a) (o ∷ without_in os n) (without_in os n)) m ≡ cond (n == m) None (object_in (o ∷ os) m)) [
      | true ↦ λ q.
          let same : (o.number.0 == m) ≡ (n == m) = grind (arith, nat_tests) in
          rest ∙ rw same (elim (n == m) as (λ c. cond c None (object_in os m) ≡ cond c None (cond c (Some o) (object_in os m))) [ true ↦ refl | false ↦ refl ])
      | false ↦ λ q.
          elim (o.number.0 == m) as (λ c. (o.number.0 == m) ≡ c → cond c (Some o) (object_in (without_in os n) m) ≡ cond (n == m) None (cond c (Some o) (object_in os m))) [
            | true ↦ λ p. let other : (n == m) ≡ false = grind (arith, nat_tests) in rw other refl
            | false ↦ λ p. rest
          ] refl
    ] refl

abbrev pub AreRising : List Object → Type 0
AreRising os = IsStrictlySortedBy nat_cmp (map number_of os)

pub rising_by : (os : List Object) → IsStrictlyIncreasing (map number_of os) → AreRising os
rising_by os h = sorted_from_strictly_increasing (map number_of os) h

without_above : (n : ℕ) (os : List Object) → AllByRecursion (λ k. nat_cmp n k ≡ Less) (map number_of os) → without_in os n ≡ os
without_above n [] above = refl
without_above n (o ∷ os) above =
    let here : nat_cmp n o.number.0 ≡ Less = above.0 in
    let off : (o.number.0 == n) ≡ false = grind (arith, nat_tests) in
    rw off (ap (λ (l : List Object). o ∷ l) (without_above n os above.1))

-- where the numbers rise, one object alone is taken out
pub charge_without : (user n : ℕ) (o : Object) (os : List Object) → AreRising os → object_in os n ≡ Some o → charge_in (without_in os n) user + pages_for user o ≡ charge_in os user
charge_without user n o [] rising h = absurd (some_none o (sym h))
charge_without user n o (x ∷ os) rising h =
    let rest = charge_without user n o os (sorted_tail nat_cmp x.number.0 (map number_of os) rising) in
    let above = sorted_head nat_cmp x.number.0 (map number_of os) rising in
    elim (x.number.0 == n) as (λ a. (x.number.0 == n) ≡ a → cond a (Some x) (object_in os n) ≡ Some o → charge_in (cond (not a) (x ∷ without_in os n) (without_in os n)) user + pages_for user o ≡ charge_in (x ∷ os) user) [
      | true ↦ λ p q.
          let here : x.number.0 ≡ n = grind (arith, nat_tests) in
          let kept : without_in os n ≡ os = subst (λ (k : ℕ). without_in os k ≡ os) here (without_above x.number.0 os above) in
          subst (λ (y : Object). charge_in (without_in os n) user + pages_for user y ≡ charge_in (x ∷ os) user) (some_same x o q)
          (rw kept (omega (arith, charge_first user x os)))
      | false ↦ λ p q. omega (arith, charge_first user x os, charge_first user x (without_in os n), rest q)
    ] refl h

-- an owner pays for the object, and for those beside it
pub beside_found : (n : ℕ) (o : Object) (os : List Object) → AreRising os → object_in os n ≡ Some o → charge_beside os n + pages_of o.body ≡ charge_in os o.owner.0
unfolding charge_beside
beside_found n o os rising h =
    let owner : charge_in (without_in os n) (owner_in (object_in os n)) ≡ charge_in (without_in os n) o.owner.0 = ap (λ (r : Option Object). charge_in (without_in os n) (owner_in r)) h in
    omega (arith, owner, charge_without o.owner.0 n o os rising h, own_pages o)
