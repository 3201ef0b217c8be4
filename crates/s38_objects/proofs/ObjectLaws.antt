-- The object of a number after a change, in the list of objects.
use Rattle.std.proofs.Common.{◌≡◌, ℕ, ◌<◌, ◌==◌, Bool, true, false, cond, List, [], ◌∷◌, refl, sym, ◌∙◌, ap, subst, arith}
use Rattle.std.proofs.lemmas.Bool.Decides.{nat_tests}
use Rattle.std.specs.Prelude.{Option, Some, None, Result, Ok, Err, OnOk, OnErr, ◌&&◌, ◌||◌, is_some}
use Rattle.std.specs.Option.{option_map}
use Rattle.std.specs.Result.{is_err}
use Rattle.std.specs.Ordering.{nat_cmp}
use Rattle.std.specs.Map.{lookup}
use Rattle.std.specs.BTreeMap.{BTreeMap, is_at, values}
use Rattle.s38_rules.specs.declared.object.Object.{Object}
use Rattle.s38_rules.specs.state.Headers.{rights_in_row}
use Rattle.s38_rules.specs.state.Held.{Held, change, change_in, has_number, object, object_in}
use Rattle.s38_objects.specs.declared.name_key.NameKey.{NameKey}
use Rattle.s38_objects.specs.Lawful.{is_place, number_of}
use Rattle.s38_objects.specs.Indexed.{AreNumbered, IsIndexed}
use Rattle.s38_objects.proofs.NumberLaws.{given_there, lookup_object, nat_same}

absent_in : (n : ℕ) (f : Object → Object) (os : List Object) → object_in os n ≡ None → change_in os n f ≡ os
absent_in n f [] h = refl
absent_in n f (o ∷ os) h =
    elim (has_number n o) as (λ b. cond b (Some o) (object_in os n) ≡ None → cond b (f o ∷ os) (o ∷ change_in os n f) ≡ o ∷ os) [
      | true ↦ λ q. absurd (cc)
      | false ↦ λ q. ap (λ (xs : List Object). o ∷ xs) (absent_in n f os q)
    ] h

-- where there is no object of the number nothing changes
pub change_absent : (h : Held) (n : ℕ) (f : Object → Object) → object h n ≡ None → h ≡ change h n f
change_absent h n f none = sym (ap (λ (os : List Object). record h { objects = os }) (absent_in n f h.objects none))

alike_in : (n : ℕ) (f g : Object → Object) (o : Object) (os : List Object) → object_in os n ≡ Some o → f o ≡ g o → change_in os n f ≡ change_in os n g
alike_in n f g o [] h same = refl
alike_in n f g o (x ∷ os) h same =
    elim (has_number n x) as (λ b. cond b (Some x) (object_in os n) ≡ Some o → cond b (f x ∷ os) (x ∷ change_in os n f) ≡ cond b (g x ∷ os) (x ∷ change_in os n g)) [
      | true ↦ λ (q : Some x ≡ Some o). let this : o ≡ x = cc in ap (λ (y : Object). y ∷ os) (subst (λ (y : Object). f y ≡ g y) this same)
      | false ↦ λ q. ap (λ (xs : List Object). x ∷ xs) (alike_in n f g o os q same)
    ] h

-- two changes of the object of a number are one where they make one object of it
pub change_alike : (h : Held) (n : ℕ) (f g : Object → Object) (o : Object) → object h n ≡ Some o → f o ≡ g o → change h n f ≡ change h n g
change_alike h n f g o there same = ap (λ (os : List Object). record h { objects = os }) (alike_in n f g o h.objects there same)

same_test : (a b n : ℕ) → (a == n) ≡ true → (a == b) ≡ (n == b)
same_test a b n h = ap (λ (k : ℕ). k == b) (nat_same a n h)

other_test : (a b n : ℕ) → (a == n) ≡ false → (a == b) ≡ true → (n == b) ≡ false
other_test a b n h g = grind (arith, nat_tests)

-- what is found at a number after a change
object_changed : (number n : ℕ) (f : Object → Object) (os : List Object) → ((o : Object) → number_of (f o) ≡ number_of o) →
    object_in (change_in os number f) n ≡ cond (number == n) (option_map f (object_in os number)) (object_in os n)
object_changed number n f [] same = none_there (number == n)
  where
    none_there : (b : Bool) → object_in [] n ≡ cond b (option_map f (object_in [] number)) (object_in [] n)
    none_there true = refl
    none_there false = refl
object_changed number n f (x ∷ os) same =
    let rest = object_changed number n f os same in
    let kept : has_number n (f x) ≡ has_number n x = ap (λ (k : ℕ). k == n) (same x) in
    elim (has_number number x) as (λ b. has_number number x ≡ b → object_in (cond b (f x ∷ os) (x ∷ change_in os number f)) n ≡ cond (number == n) (option_map f (cond b (Some x) (object_in os number))) (cond (has_number n x) (Some x) (object_in os n))) [
      | true ↦ λ q. rw (kept, same_test (number_of x) n number q)
          (elim (number == n) as (λ b. cond b (Some (f x)) (object_in os n) ≡ cond b (Some (f x)) (cond b (Some x) (object_in os n))) [ true ↦ refl | false ↦ refl ])
      | false ↦ λ q. elim (has_number n x) as (λ b. has_number n x ≡ b → cond b (Some x) (object_in (change_in os number f) n) ≡ cond (number == n) (option_map f (object_in os number)) (cond b (Some x) (object_in os n))) [
        | true ↦ λ r. rw (other_test (number_of x) n number q r) refl
        | false ↦ λ r. rest
      ] refl
    ] refl

neither : (b : Bool) (r m : ℕ) → m ≡ cond (b && false) r m
neither true r m = refl
neither false r m = refl

-- the rows of users after the row of one user on one object changed
pub rows_changed : (number n user u r : ℕ) (f : Object → Object) (os : List Object) → ((o : Object) → number_of (f o) ≡ number_of o) →
    ((v : ℕ) → rights_in_row (option_map f (object_in os number)) v ≡ cond (is_some (object_in os number) && (user == v)) r (rights_in_row (object_in os number) v)) →
    rights_in_row (object_in (change_in os number f) n) u ≡ cond (is_some (object_in os number) && ((number == n) && (user == u))) r (rights_in_row (object_in os n) u)
rows_changed number n user u r f os same set =
    ap (λ (o : Option Object). rights_in_row o u) (object_changed number n f os same)
    ∙ elim (number == n) as (λ b. (number == n) ≡ b → rights_in_row (cond b (option_map f (object_in os number)) (object_in os n)) u ≡ cond (is_some (object_in os number) && (b && (user == u))) r (rights_in_row (object_in os n) u)) [
      | true ↦ λ q. set u ∙ ap (λ (k : ℕ). cond (is_some (object_in os number) && (user == u)) r (rights_in_row (object_in os k) u)) (nat_same number n q)
      | false ↦ λ q. neither (is_some (object_in os number)) r (rights_in_row (object_in os n) u)
    ] refl

-- ---- which contexts an object may say

some_there : (r : Option Object) (o : Object) → r ≡ Some o → is_some r ≡ true
some_there None o h = absurd (cc)
some_there (Some x) o h = refl

-- a context into which an object may be put was given its number
pub place_given : (m : BTreeMap ℕ Object) (names : BTreeMap NameKey ℕ) (next ceiling number context : ℕ) (o : Object) → IsIndexed m names next → lookup (is_at (nat_cmp number)) m.entries ≡ Some o →
    is_place (record { objects = values m; next = next; ceiling = ceiling }) context ≡ true → context < next
place_given m names next ceiling number context o h found placed = by_cases (context == 0) (is_some (object_in (values m) context)) refl refl placed
  where
    some : number < next
    some = given_there next number m.entries h.numbered (some_there (object_in (values m) number) o (sym (lookup_object next number m.entries h.numbered) ∙ found))

    by_cases : (a b : Bool) → (context == 0) ≡ a → is_some (object_in (values m) context) ≡ b → (a || b) ≡ true → context < next
    by_cases true b p q all = omega (arith, nat_same context 0 p, some)
    by_cases false true p q all = given_there next context m.entries h.numbered q
    by_cases false false p q all = absurd (cc)

-- the context that an object says was given its number
pub context_given : (next n : ℕ) (o : Object) (es : List (ℕ × Object)) → AreNumbered next es → lookup (is_at (nat_cmp n)) es ≡ Some o → o.context.0 < next
context_given next n o [] h found = absurd (cc)
context_given next n o (e ∷ es) h found =
    elim (is_at (nat_cmp n) e.0) as (λ b. cond b (Some e.1) (lookup (is_at (nat_cmp n)) es) ≡ Some o → o.context.0 < next) [
      | true ↦ λ (q : Some e.1 ≡ Some o). let same : e.1 ≡ o = cc in subst (λ (x : Object). x.context.0 < next) same h.2
      | false ↦ λ q. context_given next n o es h.3 q
    ] found

-- ---- results

pub either : {T E P Q R : Type 0} (r : Result T E) → OnOk r P → OnErr r Q → (P → R) → (Q → R) → R
either (Ok x) p q f g = f p
either (Err e) p q f g = g q

pub on_ok_both : {T E P Q R : Type 0} (r : Result T E) → OnOk r P → OnOk r Q → (P → Q → R) → OnOk r R
on_ok_both (Ok x) p q f = f p q
on_ok_both (Err e) p q f = tt

pub from_ok : {T E P : Type 0} (r : Result T E) → is_err r ≡ false → OnOk r P → P
from_ok (Ok x) h p = p
from_ok (Err e) h p = absurd (cc)
