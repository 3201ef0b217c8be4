-- What the searches find in locks that are in order.
use Rattle.std.proofs.Common.{◌≡◌, ℕ, ◌+◌, ◌≤◌, ◌<◌, Bool, true, false, cond, not, List, [], ◌∷◌, drop, get_or, length, length-drop, zero, suc, refl, take, sym, ◌∙◌, ap, arith, subst, ⊎_elim}
use Rattle.std.proofs.lemmas.Bool.Decides.{nat_tests}
use Rattle.std.proofs.lemmas.List.Sums.{fails_before_first, passes_at_first, position_or_len_is}
use Rattle.std.proofs.lemmas.Option.{get_or_from_slice_get, slice_get_cases}
use Rattle.std.specs.Prelude.{◌==◌, nat_le, nat_lt, Some, None, find, position, slice_get}
use Rattle.std.specs.List.{AllByRecursion, position_or_len}
use Rattle.std.specs.List.Sorted.{IsPartitionPoint}
use Rattle.s38_base.specs.declared.words.LockState.{LockState}
use Rattle.s38_base.specs.declared.words.LockState.TheVariants.{Lsrd, Lsro, Lsup, Lear, Lenr}
use Rattle.s38_locks.specs.States.{rank}
use Rattle.s38_locks.specs.Locks.{GoesBefore, IsInOrder, IsOrderly, Lock, comes_later, is_at, is_same, later_than, lock_place}

one_more : (n : ℕ) → 1 + n ≡ suc n
one_more n = omega arith

unnot : (b : Bool) → not b ≡ true → b ≡ false
unnot true e = absurd (cc)
unnot false e = refl

unnot_false : (b : Bool) → not b ≡ false → b ≡ true
unnot_false true e = refl
unnot_false false e = absurd (cc)

nothing_below : {n : ℕ} → n < 0 → ⊥
nothing_below h = omega arith

-- ---- the locks of one object are in order

all_at : (P : Lock → Type 0) (xs : List Lock) (k : ℕ) (d : Lock) → AllByRecursion P xs → k < length xs → P (get_or xs k d)
all_at P [] k d h low = absurd (nothing_below low)
all_at P (x ∷ xs) zero d h low = h.0
all_at P (x ∷ xs) (suc k) d h low = all_at P xs k d h.1 (omega arith)

orderly_at : (xs : List Lock) (i j : ℕ) (d : Lock) → IsOrderly xs → i ≤ j → j < length xs → lock_place (get_or xs i d) ≤ lock_place (get_or xs j d)
orderly_at [] i j d h le low = absurd (nothing_below low)
orderly_at (x ∷ xs) zero zero d h le low = omega arith
orderly_at (x ∷ xs) zero (suc j) d h le low = (all_at (GoesBefore x) xs j d h.0 (omega arith)).ordered
orderly_at (x ∷ xs) (suc i) zero d h le low = absurd (omega arith)
orderly_at (x ∷ xs) (suc i) (suc j) d h le low = orderly_at xs i j d h.1 (omega arith) (omega arith)

pub in_order : (xs : List Lock) → IsOrderly xs → IsInOrder xs
in_order xs h i j d le low = orderly_at xs i j d h le low

-- ---- locks at one place are equal

abbrev state_at : ℕ → LockState
state_at n = cond (n == 0) Lsrd (cond (n == 1) Lsro (cond (n == 2) Lsup (cond (n == 3) Lear Lenr)))

state_back : (s : LockState) → state_at (rank s) ≡ s
state_back Lsrd = refl
state_back Lsro = refl
state_back Lsup = refl
state_back Lear = refl
state_back Lenr = refl

rank_low : (s : LockState) → rank s < 5
rank_low Lsrd = omega arith
rank_low Lsro = omega arith
rank_low Lsup = omega arith
rank_low Lear = omega arith
rank_low Lenr = omega arith

same_lock : (l m : Lock) → lock_place l ≡ lock_place m → l ≡ m
same_lock l m e =
    let low = rank_low l.1 in
    let high = rank_low m.1 in
    let holder : l.0 ≡ m.0 = omega arith in
    let ranks : rank l.1 ≡ rank m.1 = omega arith in
    let state : l.1 ≡ m.1 = sym (state_back l.1) ∙ ap state_at ranks ∙ state_back m.1 in
    ap (λ (n : ℕ). (n, l.1)) holder ∙ ap (λ (s : LockState). (m.0, s)) state

-- ---- where a search ends

pub later_found : (l : Lock) (xs : List Lock) (n : ℕ) → n ≤ length xs → IsPartitionPoint (λ y. nat_le (lock_place y) (lock_place l) ≡ true) (λ y. nat_le (lock_place y) (lock_place l) ≡ false) xs n → n ≡ position_or_len (comes_later l) xs
later_found l xs n in_list point =
    sym (position_or_len_is (comes_later l) xs n l in_list
    (λ k low. let front = point.0 k l (omega arith) low in grind (arith, nat_tests))
    (λ low. let back = point.1 n l (omega arith) low in grind (arith, nat_tests)))

pub not_before_found : (l : Lock) (xs : List Lock) (n : ℕ) → n ≤ length xs → IsPartitionPoint (λ y. nat_lt (lock_place y) (lock_place l) ≡ true) (λ y. nat_lt (lock_place y) (lock_place l) ≡ false) xs n → n ≡ position_or_len (λ y. not (comes_later y l)) xs
not_before_found l xs n in_list point =
    sym (position_or_len_is (λ y. not (comes_later y l)) xs n l in_list
    (λ k low. ap not (point.0 k l (omega arith) low))
    (λ low. ap not (point.1 n l (omega arith) low)))

-- a lock that passes a test tells that the first one that does is no further on
pub enough_before : (p : Lock → Bool) (x : Lock) (xs : List Lock) (k : ℕ) → k < length xs → x ≡ get_or xs k x → p x ≡ true → position_or_len p (take k xs) ≡ position_or_len p xs
enough_before p x [] k low is e = absurd (nothing_below low)
enough_before p x (y ∷ ys) zero low is e =
    let passes : p y ≡ true = ap p (sym is) ∙ e in
    rw passes refl
enough_before p x (y ∷ ys) (suc k) low is e = ap (λ (n : ℕ). cond (not (p y)) (1 + n) 0) (enough_before p x ys k (omega arith) is e)

-- ---- a run of equal locks is passed over

passed : (p : Lock → Bool) (x : Lock) (xs : List Lock) → ((k : ℕ) → k < length xs → lock_place x ≤ lock_place (get_or xs k x)) → p x ≡ false → find p (later_than x xs) ≡ find p xs
passed p x [] h e = refl
passed p x (y ∷ ys) h e =
    let rest = passed p x ys (λ k low. h (suc k) (omega arith)) e in
    let n = position_or_len (comes_later x) ys in
    elim (comes_later x y) as (λ b. comes_later x y ≡ b → find p (drop (cond (not b) (1 + n) 0) (y ∷ ys)) ≡ find p (y ∷ ys)) [
      | true ↦ λ is. refl
      | false ↦ λ is.
          let low : lock_place x ≤ lock_place y = h 0 (omega arith) in
          let same : x ≡ y = same_lock x y (grind (arith, nat_tests)) in
          let fails : p y ≡ false = ap p (sym same) ∙ e in
          rw (one_more n, fails) rest
    ] refl

-- from the first lock, which does not pass a test, to the first later one
pub run_passed : (p : Lock → Bool) (x : Lock) (xs : List Lock) → Some x ≡ slice_get xs 0 → IsInOrder xs → p x ≡ false → find p (later_than x xs) ≡ find p xs
run_passed p x [] first h e = refl
run_passed p x (y ∷ ys) first h e =
    let same : x ≡ y = cc in
    passed p x (y ∷ ys) (λ k low. subst (λ (z : Lock). lock_place z ≤ lock_place (get_or (y ∷ ys) k x)) (sym same) (h 0 k x (omega arith) low)) e

pub run_falls : (x : Lock) (xs : List Lock) → Some x ≡ slice_get xs 0 → length (later_than x xs) < length xs
run_falls x [] first = absurd (cc)
run_falls x (y ∷ ys) first =
    let n = position_or_len (comes_later x) ys in
    let same : x ≡ y = cc in
    let stays : comes_later x y ≡ false = rw same (grind (arith, nat_tests)) in
    rw (stays, one_more n) (omega (arith, length-drop {A = Lock}))

pub run_found : (p : Lock → Bool) (x : Lock) (xs : List Lock) → Some x ≡ slice_get xs 0 → p x ≡ true → Some x ≡ find p xs
run_found p x [] first e = absurd (cc)
run_found p x (y ∷ ys) first e =
    let same : x ≡ y = cc in
    rw same (rw (rw same at e) refl)

pub none_left : (p : Lock → Bool) (xs : List Lock) → None ≡ slice_get xs 0 → None ≡ find p xs
none_left p [] none = refl
none_left p (y ∷ ys) none = absurd (cc)

-- ---- the place of a lock

-- the place of the first lock that does not come before one
abbrev first_from : Lock → List Lock → ℕ
first_from l xs = position_or_len (λ y. not (comes_later y l)) xs

before_first : (l : Lock) (xs : List Lock) (k : ℕ) → k < first_from l xs → lock_place (get_or xs k l) < lock_place l
before_first l xs k low =
    let fails = fails_before_first (λ y. not (comes_later y l)) xs k l low in
    let earlier : comes_later (get_or xs k l) l ≡ true = unnot_false _ fails in
    grind (arith, nat_tests)

at_first : (l : Lock) (xs : List Lock) → first_from l xs < length xs → lock_place l ≤ lock_place (get_or xs (first_from l xs) l)
at_first l xs low =
    let passes = passes_at_first (λ y. not (comes_later y l)) xs l low in
    let later : comes_later (get_or xs (first_from l xs) l) l ≡ false = unnot _ passes in
    grind (arith, nat_tests)

unlike : (l m : Lock) → lock_place m < lock_place l → is_same l m ≡ false
unlike l m low = grind (arith, nat_tests)

unlike_later : (l m : Lock) → lock_place l < lock_place m → is_same l m ≡ false
unlike_later l m low = grind (arith, nat_tests)

there : (l : Lock) (xs : List Lock) → first_from l xs < length xs → is_same l (get_or xs (first_from l xs) l) ≡ true → position (is_same l) xs ≡ Some (first_from l xs)
there l xs low same =
    let n = first_from l xs in
    let is : position_or_len (is_same l) xs ≡ n =
    position_or_len_is (is_same l) xs n l (omega arith) (λ k under. unlike l (get_or xs k l) (before_first l xs k under)) (λ under. same) in
    let inside : nat_lt n (length xs) ≡ true = grind (arith, nat_tests) in
    rw (is, inside) refl

missing : (l : Lock) (xs : List Lock) → ((k : ℕ) → k < length xs → is_same l (get_or xs k l) ≡ false) → position (is_same l) xs ≡ None
missing l xs none =
    let is : position_or_len (is_same l) xs ≡ length xs = position_or_len_is (is_same l) xs (length xs) l (omega arith) none (λ under. absurd (omega arith)) in
    let outside : nat_lt (length xs) (length xs) ≡ false = grind (arith, nat_tests) in
    rw (is, outside) refl

pub found_place : (l : Lock) (xs : List Lock) → is_at l (slice_get xs (first_from l xs)) ≡ true → position (is_same l) xs ≡ Some (first_from l xs)
found_place l xs same =
    let n = first_from l xs in
    ⊎_elim
    (λ (x, low, is, at). there l xs low (rw (get_or_from_slice_get xs n x l is) (rw is at same)))
    (λ (past, is). absurd (cc))
    (slice_get_cases xs n).1

differs : (l : Lock) (xs : List Lock) → IsInOrder xs → first_from l xs < length xs → is_same l (get_or xs (first_from l xs) l) ≡ false → (k : ℕ) → k < length xs → is_same l (get_or xs k l) ≡ false
differs l xs h inside other k low =
    let n = first_from l xs in
    elim (nat_lt k n) as (λ b. nat_lt k n ≡ b → is_same l (get_or xs k l) ≡ false) [
      | true ↦ λ e. unlike l (get_or xs k l) (before_first l xs k (grind (arith, nat_tests)))
      | false ↦ λ e.
          let behind : n ≤ k = grind (arith, nat_tests) in
          let rises : lock_place (get_or xs n l) ≤ lock_place (get_or xs k l) = h n k l behind low in
          let least : lock_place l ≤ lock_place (get_or xs n l) = at_first l xs inside in
          unlike_later l (get_or xs k l) (grind (arith, nat_tests))
    ] refl

pub no_place : (l : Lock) (xs : List Lock) → IsInOrder xs → is_at l (slice_get xs (first_from l xs)) ≡ false → position (is_same l) xs ≡ None
no_place l xs h other =
    let n = first_from l xs in
    ⊎_elim
    (λ (x, low, is, at). missing l xs (differs l xs h low (rw (get_or_from_slice_get xs n x l is) (rw is at other))))
    (λ (past, is). missing l xs (λ k low. unlike l (get_or xs k l) (before_first l xs k (omega arith))))
    (slice_get_cases xs n).1
