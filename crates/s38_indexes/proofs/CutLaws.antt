-- Lists of which a front passes a test and no later element does: what a binary search finds in them.
use Rattle.std.proofs.Common.{◌≡◌, ℕ, ◌+◌, ◌-◌, ◌≤◌, ◌<◌, Bool, true, false, cond, not, List, [], ◌∷◌, ◌++◌, get_or, length, zero, suc, refl, sym, ◌∙◌, ap, arith, subst}
use Rattle.std.proofs.lemmas.List.{reverse-append}
use Rattle.std.proofs.lemmas.List.Folds.{find-append}
use Rattle.std.proofs.lemmas.List.Sums.{position_or_len_is}
use Rattle.std.specs.Prelude.{Some, None, find, is_some, reverse, slice_get}
use Rattle.std.specs.List.{AllByRecursion, AllWithin, position_or_len}
use Rattle.std.specs.List.Sorted.{IsPartitionPoint, IsPartitionedBy}
use Rattle.std.specs.Option.{option_or, unwrap_or}

-- ---- tests

no : {b : Bool} → b ≡ true → b ≡ false → ⊥
no t f = cc

unnot : (b : Bool) → not b ≡ true → b ≡ false
unnot true e = absurd (cc)
unnot false e = refl

pub unnot_false : (b : Bool) → not b ≡ false → b ≡ true
unnot_false true e = refl
unnot_false false e = absurd (cc)

nothing_below : {n : ℕ} → n < 0 → ⊥
nothing_below h = omega arith

one_more : (n : ℕ) → 1 + n ≡ suc n
one_more n = omega arith

module _ {X : Type 0} (p : X → Bool) where
  -- no element passes after one that does not
  abbrev pub IsCut : List X → Type 0
  IsCut [] = Unit {0}
  IsCut (x ∷ xs) = (p x ≡ false → AllByRecursion (λ y. p y ≡ false) xs) × IsCut xs

pub all_at : {X : Type 0} (P : X → Type 0) (xs : List X) (k : ℕ) (d : X) → AllByRecursion P xs → k < length xs → P (get_or xs k d)
all_at P [] k d h low = absurd (nothing_below low)
all_at P (x ∷ xs) zero d h low = h.0
all_at P (x ∷ xs) (suc k) d h low = all_at P xs k d h.1 (omega arith)

pub all_from_within : {X : Type 0} (P : X → Type 0) (xs : List X) → AllWithin P xs 0 (length xs) → AllByRecursion P xs
all_from_within P [] h = tt
all_from_within P (x ∷ xs) h = (h 0 x (omega arith) (omega arith), all_from_within P xs (λ k d low high. h (suc k) d (omega arith) (omega arith)))

pub all_second : {X : Type 0} (P : X → Type 0) (xs ys : List X) → AllByRecursion P (xs ++ ys) → AllByRecursion P ys
all_second P [] ys h = h
all_second P (x ∷ xs) ys h = all_second P xs ys h.1

pub all_both : {X : Type 0} (P : X → Type 0) (xs ys : List X) → AllByRecursion P xs → AllByRecursion P ys → AllByRecursion P (xs ++ ys)
all_both P [] ys h g = g
all_both P (x ∷ xs) ys h g = (h.0, all_both P xs ys h.1 g)

module _ {X : Type 0} (p : X → Bool) where
  cut_partition_at : (xs : List X) (i j : ℕ) (d : X) → IsCut p xs → i ≤ j → j < length xs → p (get_or xs j d) ≡ true → p (get_or xs i d) ≡ true
  cut_partition_at [] i j d h le low e = absurd (nothing_below low)
  cut_partition_at (x ∷ xs) zero zero d h le low e = e
  cut_partition_at (x ∷ xs) (suc i) zero d h le low e = absurd (omega arith)
  cut_partition_at (x ∷ xs) (suc i) (suc j) d h le low e = cut_partition_at xs i j d h.1 (omega arith) (omega arith) e
  cut_partition_at (x ∷ xs) zero (suc j) d h le low e =
      elim (p x) as (λ b. p x ≡ b → b ≡ true) [
        | true ↦ λ is. refl
        | false ↦ λ is. absurd (no e (all_at (λ y. p y ≡ false) xs j d (h.0 is) (omega arith)))
      ] refl

  pub cut_partition : (xs : List X) → IsCut p xs → IsPartitionedBy p xs
  cut_partition xs h i j d le low e = cut_partition_at xs i j d h le low e

  -- the place that a binary search finds
  pub point_is : (d : X) (xs : List X) (n : ℕ) → n ≤ length xs → IsPartitionPoint (λ y. p y ≡ true) (λ y. p y ≡ false) xs n → position_or_len (λ y. not (p y)) xs ≡ n
  point_is d xs n in_list point =
      position_or_len_is (λ y. not (p y)) xs n d in_list
      (λ k low. ap not (point.0 k d (omega arith) low))
      (λ low. ap not (point.1 n d (omega arith) low))

  pub point_passed : (d : X) (xs : List X) (n : ℕ) → n ≤ length xs → IsPartitionPoint (λ y. not (p y) ≡ true) (λ y. not (p y) ≡ false) xs n → position_or_len p xs ≡ n
  point_passed d xs n in_list point =
      position_or_len_is p xs n d in_list
      (λ k low. unnot (p (get_or xs k d)) (point.0 k d (omega arith) low))
      (λ low. unnot_false (p (get_or xs n d)) (point.1 n d (omega arith) low))

  -- the first and the last tell of all
  pub none_found : (xs : List X) → AllByRecursion (λ x. p x ≡ false) xs → find p xs ≡ None
  none_found [] h = refl
  none_found (x ∷ xs) h = rw h.0 (none_found xs h.1)

  pub none_found_back : (xs : List X) → AllByRecursion (λ x. p x ≡ false) xs → find p (reverse xs) ≡ None
  none_found_back [] h = refl
  none_found_back (x ∷ xs) h =
      let rest = none_found_back xs h.1 in
      rw (reverse-append (x ∷ []) xs, find-append p (reverse xs) (x ∷ []), rest, h.0) refl

  pub none_passes : (xs : List X) → is_some (find p xs) ≡ false → AllByRecursion (λ x. p x ≡ false) xs
  none_passes [] e = tt
  none_passes (x ∷ xs) e =
      let rest = none_passes xs in
      elim (p x) as (λ b. p x ≡ b → is_some (cond b (Some x) (find p xs)) ≡ false → AllByRecursion (λ y. p y ≡ false) (x ∷ xs)) [
        | true ↦ λ is q. absurd (cc)
        | false ↦ λ is q. (is, rest q)
      ] refl e

  pub has_first : (first : X) (xs : List X) → IsCut p xs → Some first ≡ slice_get xs 0 → p first ≡ is_some (find p xs)
  has_first first [] h at = absurd (cc)
  has_first first (x ∷ xs) h at =
      let same : first ≡ x = ap (λ o. unwrap_or o first) at in
      ap p same ∙ elim (p x) as (λ b. p x ≡ b → b ≡ is_some (cond b (Some x) (find p xs))) [
        | true ↦ λ is. refl
        | false ↦ λ is. sym (ap is_some (none_found xs (h.0 is)))
      ] refl

  all_last : (P : X → Type 0) (last x : X) (xs : List X) → AllByRecursion P (x ∷ xs) → slice_get (x ∷ xs) (length xs) ≡ Some last → P last
  all_last P last x [] h at = subst P (ap (λ o. unwrap_or o last) at) h.0
  all_last P last x (y ∷ ys) h at = all_last P last y ys h.1 at

  tells : (b : Bool) (x : X) → not b ≡ is_some (cond (not b) (Some x) None)
  tells true x = refl
  tells false x = refl

  passes_last_of : (last x : X) (xs : List X) → IsCut p (x ∷ xs) → slice_get (x ∷ xs) (length xs) ≡ Some last → not (p last) ≡ is_some (find (λ y. not (p y)) (x ∷ xs))
  passes_last_of last x [] h at = ap (λ y. not (p y)) (sym (ap (λ o. unwrap_or o last) at)) ∙ tells (p x) x
  passes_last_of last x (y ∷ ys) h at =
      let rest = passes_last_of last y ys h.1 at in
      elim (p x) as (λ b. p x ≡ b → not (p last) ≡ is_some (cond (not b) (Some x) (find (λ z. not (p z)) (y ∷ ys)))) [
        | true ↦ λ is. rest
        | false ↦ λ is. ap not (all_last (λ z. p z ≡ false) last y ys (h.0 is) at)
      ] refl

  last_at : (x : X) (xs : List X) → slice_get (x ∷ xs) (length (x ∷ xs) - 1) ≡ slice_get (x ∷ xs) (length xs)
  last_at x xs = let same : length (x ∷ xs) - 1 ≡ length xs = omega arith in ap (λ n. slice_get (x ∷ xs) n) same

  pub passes_last : (last : X) (xs : List X) → IsCut p xs → Some last ≡ slice_get xs (length xs - 1) → not (p last) ≡ is_some (find (λ y. not (p y)) xs)
  passes_last last [] h at = absurd (cc)
  passes_last last (x ∷ xs) h at = passes_last_of last x xs h (sym (last_at x xs) ∙ sym at)

  -- the last element that passes comes before the first that does not
  pub greatest_none : (xs : List X) → IsCut p xs → position_or_len (λ y. not (p y)) xs ≡ 0 → find p (reverse xs) ≡ None
  greatest_none [] h e = refl
  greatest_none (x ∷ xs) h e =
      let n = position_or_len (λ y. not (p y)) xs in
      elim (p x) as (λ b. p x ≡ b → cond (not (not b)) (1 + n) 0 ≡ 0 → find p (reverse (x ∷ xs)) ≡ None) [
        | true ↦ λ is q. absurd (omega arith)
        | false ↦ λ is q. none_found_back (x ∷ xs) (is, h.0 is)
      ] refl e

  found_last : (x : X) (xs : List X) → p x ≡ true → find p (reverse (x ∷ xs)) ≡ option_or (find p (reverse xs)) (Some x)
  found_last x xs is = rw (reverse-append (x ∷ []) xs, find-append p (reverse xs) (x ∷ []), is) refl

  pub greatest_some : (xs : List X) (k : ℕ) (d : X) → IsCut p xs → position_or_len (λ y. not (p y)) xs ≡ suc k → find p (reverse xs) ≡ Some (get_or xs k d)
  greatest_some [] k d h e = absurd (omega arith)
  greatest_some (x ∷ xs) zero d h e =
      let n = position_or_len (λ y. not (p y)) xs in
      elim (p x) as (λ b. p x ≡ b → cond (not (not b)) (1 + n) 0 ≡ 1 → find p (reverse (x ∷ xs)) ≡ Some x) [
        | true ↦ λ is q. let next : n ≡ 0 = omega arith in found_last x xs is ∙ ap (λ o. option_or o (Some x)) (greatest_none xs h.1 next)
        | false ↦ λ is q. absurd (omega arith)
      ] refl e
  greatest_some (x ∷ xs) (suc k) d h e =
      let n = position_or_len (λ y. not (p y)) xs in
      let rest = greatest_some xs k d h.1 in
      elim (p x) as (λ b. p x ≡ b → cond (not (not b)) (1 + n) 0 ≡ suc (suc k) → find p (reverse (x ∷ xs)) ≡ Some (get_or xs k d)) [
        | true ↦ λ is q. let next : n ≡ suc k = omega arith in found_last x xs is ∙ ap (λ o. option_or o (Some x)) (rest next)
        | false ↦ λ is q. absurd (omega arith)
      ] refl e
