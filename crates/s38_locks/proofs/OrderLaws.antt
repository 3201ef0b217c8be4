-- The locks of one object stay in their order, and no two of different processes become incompatible.
use Rattle.std.proofs.Common.{◌≡◌, ℕ, ◌+◌, ◌≤◌, Bool, true, false, cond, not, List, [], ◌∷◌, ◌++◌, length, suc, refl, sym, ◌∙◌, ap, arith, subst}
use Rattle.std.proofs.lemmas.Bool.Decides.{nat_tests}
use Rattle.std.proofs.lemmas.List.Folds.{find-append}
use Rattle.std.proofs.lemmas.Option.{cond_some}
use Rattle.std.specs.Prelude.{◌==◌, nat_lt, Option, Some, None, IfSome, OnOk, OnErr, filter, find, insert, position, remove}
use Rattle.std.specs.List.{AllByRecursion, position_or_len}
use Rattle.std.specs.declared.result.Result.{Result}
use Rattle.std.specs.declared.result.Result.TheVariants.{Ok, Err}
use Rattle.s38_base.specs.declared.words.LockState.{LockState}
use Rattle.s38_base.specs.declared.words.LockState.TheVariants.{Lsrd, Lsro, Lsup, Lear, Lenr}
use Rattle.s38_locks.specs.States.{are_compatible}
use Rattle.s38_locks.specs.Locks.{GoesBefore, IsLeast, IsOrderly, Lock, comes_later, hinders, hindrance, is_same, lock_place, with_lock, without_lock}
use Rattle.s38_locks.specs.Refusals.{in_the_way, transfer_refusal}

-- ---- places

one_more : (n : ℕ) → 1 + n ≡ suc n
one_more n = omega arith

inserted : (l : Lock) (xs : List Lock) → insert xs (position_or_len (comes_later l) xs) l ≡ with_lock l xs
inserted l [] = refl
inserted l (x ∷ xs) =
    let rest = inserted l xs in
    let n = position_or_len (comes_later l) xs in
    elim (comes_later l x) as (λ b. insert (x ∷ xs) (cond (not b) (1 + n) 0) l ≡ cond b (l ∷ x ∷ xs) (x ∷ with_lock l xs)) [
      | true ↦ refl
      | false ↦ rw (one_more n) (ap (λ (ys : List Lock). x ∷ ys) rest)
    ]

pub inserted_at : (l : Lock) (xs : List Lock) (i : ℕ) → i ≡ position_or_len (comes_later l) xs → insert xs i l ≡ with_lock l xs
inserted_at l xs i e = ap (λ (n : ℕ). insert xs n l) e ∙ inserted l xs

removed : (l : Lock) (xs : List Lock) → remove xs (position_or_len (is_same l) xs) ≡ without_lock l xs
removed l [] = refl
removed l (x ∷ xs) =
    let rest = removed l xs in
    let n = position_or_len (is_same l) xs in
    elim (is_same l x) as (λ b. remove (x ∷ xs) (cond (not b) (1 + n) 0) ≡ cond b xs (x ∷ without_lock l xs)) [
      | true ↦ refl
      | false ↦ rw (one_more n) (ap (λ (ys : List Lock). x ∷ ys) rest)
    ]

pub removed_at : (l : Lock) (xs : List Lock) (i : ℕ) → position (is_same l) xs ≡ Some i → remove xs i ≡ without_lock l xs
removed_at l xs i e =
    ap (λ (n : ℕ). remove xs n) (sym (cond_some (nat_lt (position_or_len (is_same l) xs) (length xs)) _ _ e).1) ∙ removed l xs

-- ---- what is in the way beside a lock

pub found_first : (p : Lock → Bool) (xs ys : List Lock) (l : Lock) → Some l ≡ find p xs → Some l ≡ find p (xs ++ ys)
found_first p xs ys l e = rw (find-append p xs ys, ← e) refl

pub found_later : (p : Lock → Bool) (xs ys : List Lock) (r : Option Lock) → None ≡ find p xs → r ≡ find p ys → r ≡ find p (xs ++ ys)
found_later p xs ys r none e = rw (find-append p xs ys, ← none) e

pub transferred : (from to : ℕ) (state : LockState) (xs : List Lock) (i : ℕ) (r : Option Lock) → position (is_same (from, state)) xs ≡ Some i → r ≡ hindrance to state (remove xs i) → in_the_way r None ≡ transfer_refusal from to state xs
transferred from to state xs i r at e =
    rw at (ap (λ (o : Option Lock). in_the_way o None) (e ∙ ap (λ (ys : List Lock). hindrance to state ys) (removed_at (from, state) xs i at)))

-- ---- what holds of each lock

all_with : (P : Lock → Type 0) (l : Lock) (xs : List Lock) → P l → AllByRecursion P xs → AllByRecursion P (with_lock l xs)
all_with P l [] p h = (p, tt)
all_with P l (x ∷ xs) p h =
    let rest = all_with P l xs p h.1 in
    elim (comes_later l x) as (λ b. AllByRecursion P (cond b (l ∷ x ∷ xs) (x ∷ with_lock l xs))) [
      | true ↦ (p, h)
      | false ↦ (h.0, rest)
    ]

all_without : (P : Lock → Type 0) (l : Lock) (xs : List Lock) → AllByRecursion P xs → AllByRecursion P (without_lock l xs)
all_without P l [] h = tt
all_without P l (x ∷ xs) h =
    let rest = all_without P l xs h.1 in
    elim (is_same l x) as (λ b. AllByRecursion P (cond b xs (x ∷ without_lock l xs))) [
      | true ↦ h.1
      | false ↦ (h.0, rest)
    ]

all_filtered : (P : Lock → Type 0) (p : Lock → Bool) (xs : List Lock) → AllByRecursion P xs → AllByRecursion P (filter p xs)
all_filtered P p [] h = tt
all_filtered P p (x ∷ xs) h =
    let rest = all_filtered P p xs h.1 in
    elim (p x) as (λ b. AllByRecursion P (cond b (x ∷ filter p xs) (filter p xs))) [
      | true ↦ (h.0, rest)
      | false ↦ rest
    ]

none_found : (p : Lock → Bool) (xs : List Lock) → find p xs ≡ None → AllByRecursion (λ x. p x ≡ false) xs
none_found p [] e = tt
none_found p (x ∷ xs) e =
    let rest = none_found p xs in
    elim (p x) as (λ b. p x ≡ b → cond b (Some x) (find p xs) ≡ None → AllByRecursion (λ y. p y ≡ false) (x ∷ xs)) [
      | true ↦ λ is q. absurd (cc)
      | false ↦ λ is q. (is, rest q)
    ] refl e

-- ---- the order, and what goes together

compatible_both : (a b : LockState) → are_compatible a b ≡ are_compatible b a
compatible_both a b = elim a as (λ a. are_compatible a b ≡ are_compatible b a) [
  | Lsrd ↦ elim b as (λ b. are_compatible Lsrd b ≡ are_compatible b Lsrd) [ Lsrd ↦ refl | Lsro ↦ refl | Lsup ↦ refl | Lear ↦ refl | Lenr ↦ refl ]
  | Lsro ↦ elim b as (λ b. are_compatible Lsro b ≡ are_compatible b Lsro) [ Lsrd ↦ refl | Lsro ↦ refl | Lsup ↦ refl | Lear ↦ refl | Lenr ↦ refl ]
  | Lsup ↦ elim b as (λ b. are_compatible Lsup b ≡ are_compatible b Lsup) [ Lsrd ↦ refl | Lsro ↦ refl | Lsup ↦ refl | Lear ↦ refl | Lenr ↦ refl ]
  | Lear ↦ elim b as (λ b. are_compatible Lear b ≡ are_compatible b Lear) [ Lsrd ↦ refl | Lsro ↦ refl | Lsup ↦ refl | Lear ↦ refl | Lenr ↦ refl ]
  | Lenr ↦ elim b as (λ b. are_compatible Lenr b ≡ are_compatible b Lenr) [ Lsrd ↦ refl | Lsro ↦ refl | Lsup ↦ refl | Lear ↦ refl | Lenr ↦ refl ]
]

same_both : (a b : ℕ) → (a == b) ≡ (b == a)
same_both a b = grind (arith, nat_tests)

hinders_both : (l m : Lock) → hinders m.0 m.1 l ≡ hinders l.0 l.1 m
hinders_both l m = rw (same_both l.0 m.0, compatible_both l.1 m.1) refl

ahead : (l m : Lock) (xs : List Lock) → lock_place l ≤ lock_place m → AllByRecursion (λ x. hinders l.0 l.1 x ≡ false) xs → AllByRecursion (GoesBefore m) xs → AllByRecursion (GoesBefore l) xs
ahead l m [] low free h = tt
ahead l m (x ∷ xs) low free h =
    let high = h.0.ordered in
    (record { ordered = omega arith; compatible = free.0 }, ahead l m xs low free.1 h.1)

is_later : (l m : Lock) → comes_later l m ≡ true → lock_place l ≤ lock_place m
is_later l m e = grind (arith, nat_tests)

is_not_later : (l m : Lock) → comes_later l m ≡ false → lock_place m ≤ lock_place l
is_not_later l m e = grind (arith, nat_tests)

orderly_among : (l : Lock) (xs : List Lock) → AllByRecursion (λ x. hinders l.0 l.1 x ≡ false) xs → IsOrderly xs → IsOrderly (with_lock l xs)
orderly_among l [] free h = (tt, tt)
orderly_among l (x ∷ xs) free h =
    let rest = orderly_among l xs free.1 h.1 in
    elim (comes_later l x) as (λ b. comes_later l x ≡ b → IsOrderly (cond b (l ∷ x ∷ xs) (x ∷ with_lock l xs))) [
      | true ↦ λ e. ((record { ordered = is_later l x e; compatible = free.0 }, ahead l x xs (is_later l x e) free.1 h.0), h)
      | false ↦ λ e. (all_with (GoesBefore x) l xs (record { ordered = is_not_later l x e; compatible = hinders_both l x ∙ free.0 }) h.0, rest)
    ] refl

pub orderly_with : (l : Lock) (xs : List Lock) → hindrance l.0 l.1 xs ≡ None → IsOrderly xs → IsOrderly (with_lock l xs)
orderly_with l xs none h = orderly_among l xs (none_found (hinders l.0 l.1) xs none) h

pub orderly_without : (l : Lock) (xs : List Lock) → IsOrderly xs → IsOrderly (without_lock l xs)
orderly_without l [] h = tt
orderly_without l (x ∷ xs) h =
    let rest = orderly_without l xs h.1 in
    let others = all_without (GoesBefore x) l xs h.0 in
    elim (is_same l x) as (λ b. IsOrderly (cond b xs (x ∷ without_lock l xs))) [
      | true ↦ h.1
      | false ↦ (others, rest)
    ]

pub orderly_filtered : (p : Lock → Bool) (xs : List Lock) → IsOrderly xs → IsOrderly (filter p xs)
orderly_filtered p [] h = tt
orderly_filtered p (x ∷ xs) h =
    let rest = orderly_filtered p xs h.1 in
    let others = all_filtered (GoesBefore x) p xs h.0 in
    elim (p x) as (λ b. IsOrderly (cond b (x ∷ filter p xs) (filter p xs))) [
      | true ↦ (others, rest)
      | false ↦ rest
    ]

-- a lock was added, or there was no memory for it
pub orderly_added : {A E : Type 0} (r : Result A E) (l : Lock) (xs ys : List Lock) → OnOk r (ys ≡ with_lock l xs) → OnErr r (ys ≡ xs) → hindrance l.0 l.1 xs ≡ None → IsOrderly xs → IsOrderly ys
orderly_added (Ok a) l xs ys ok err none h = rw ok (orderly_with l xs none h)
orderly_added (Err e) l xs ys ok err none h = rw err h

-- ---- the first lock that is found is the least

none_before : (p : Lock → Bool) (l : Lock) (xs : List Lock) → AllByRecursion (GoesBefore l) xs → AllByRecursion (λ x. p x ≡ true → lock_place l ≤ lock_place x) xs
none_before p l [] h = tt
none_before p l (x ∷ xs) h = (λ e. h.0.ordered, none_before p l xs h.1)

found_least : (p : Lock → Bool) (xs : List Lock) (l : Lock) → IsOrderly xs → find p xs ≡ Some l → AllByRecursion (λ x. p x ≡ true → lock_place l ≤ lock_place x) xs
found_least p [] l h e = tt
found_least p (x ∷ xs) l h e =
    let rest = found_least p xs l h.1 in
    elim (p x) as (λ b. p x ≡ b → cond b (Some x) (find p xs) ≡ Some l → AllByRecursion (λ y. p y ≡ true → lock_place l ≤ lock_place y) (x ∷ xs)) [
      | true ↦ λ is q.
          let same : x ≡ l = cc in
          subst (λ (m : Lock). AllByRecursion (λ y. p y ≡ true → lock_place m ≤ lock_place y) (x ∷ xs)) same (λ e. omega arith, none_before p x xs h.0)
      | false ↦ λ is q. (λ t. absurd (cc), rest q)
    ] refl e

pub least_found : (p : Lock → Bool) (xs : List Lock) (l : Lock) → IsOrderly xs → find p xs ≡ Some l → IsLeast p l xs
least_found p xs l h e = record { least = found_least p xs l h e }

pub least_if : (p : Lock → Bool) (xs : List Lock) → IsOrderly xs → IfSome (find p xs) (λ l. IsLeast p l xs)
least_if p xs h = elim (find p xs) as (λ r. find p xs ≡ r → IfSome r (λ l. IsLeast p l xs)) [
  | None ↦ λ e. tt
  | Some l ↦ λ e. least_found p xs l h e
] refl
