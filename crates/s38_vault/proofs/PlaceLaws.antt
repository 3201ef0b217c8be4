-- What a search finds in entries that rise by key, and what an edit at that place makes of them.
use Rattle.std.proofs.Common.{◌≡◌, ℕ, ◌+◌, ◌≤◌, ◌<◌, Bool, true, false, cond, not, List, [], ◌∷◌, get_or, length, set, zero, suc, refl, sym, ◌∙◌, ap, arith}
use Rattle.std.proofs.lemmas.List.Sums.{position_or_len_is}
use Rattle.std.specs.Prelude.{◌&&◌, Option, Some, None, insert, remove, slice_get}
use Rattle.std.specs.Cmp.{IsTotalOrder}
use Rattle.std.specs.FinMap.{IsAntisymmetric, find, is_sorted, put}
use Rattle.std.specs.FinMap.Entries.{below_all, where_key}
use Rattle.std.specs.List.{AllByRecursion, position_or_len}
use Rattle.std.specs.List.Sorted.{IsPartitionPoint, IsPartitionedBy}
use Rattle.std.specs.Ordering.{eq_by_cmp, is_eq, is_lt, ordering_reverse}
use Rattle.std.specs.declared.cmp.Ordering.{Ordering}
use Rattle.std.specs.declared.cmp.Ordering.TheVariants.{Less, Equal, Greater}

-- ---- tests

pub both_first : (a b : Bool) → (a && b) ≡ true → a ≡ true
both_first true b e = refl
both_first false b e = absurd (cc)

pub both_second : (a b : Bool) → (a && b) ≡ true → b ≡ true
both_second true b e = e
both_second false b e = absurd (cc)

is_lt-Less : (r : Ordering) → is_lt r ≡ true → r ≡ Less
is_lt-Less Less e = refl
is_lt-Less Equal e = absurd (cc)
is_lt-Less Greater e = absurd (cc)

no : {b : Bool} → b ≡ true → b ≡ false → ⊥
no t f = cc

unequal : (r : Ordering) → r ≡ Greater → is_eq r ≡ true → ⊥
unequal r is e = cc (ap is_eq is)

one_more : (n : ℕ) → 1 + n ≡ suc n
one_more n = omega arith

nothing_below : {n : ℕ} → n < 0 → ⊥
nothing_below h = omega arith

-- ---- lists of which a front passes a test and no later element does

module _ {X : Type 0} (p : X → Bool) where
  -- no element passes after one that does not
  abbrev pub IsCut : List X → Type 0
  IsCut [] = Unit {0}
  IsCut (x ∷ xs) = (p x ≡ false → AllByRecursion (λ y. p y ≡ false) xs) × IsCut xs

  all_at : (P : X → Type 0) (xs : List X) (k : ℕ) (d : X) → AllByRecursion P xs → k < length xs → P (get_or xs k d)
  all_at P [] k d h low = absurd (nothing_below low)
  all_at P (x ∷ xs) zero d h low = h.0
  all_at P (x ∷ xs) (suc k) d h low = all_at P xs k d h.1 (omega arith)

  cut_at : (xs : List X) (i j : ℕ) (d : X) → IsCut xs → i ≤ j → j < length xs → p (get_or xs j d) ≡ true → p (get_or xs i d) ≡ true
  cut_at [] i j d h le low e = absurd (nothing_below low)
  cut_at (x ∷ xs) zero zero d h le low e = e
  cut_at (x ∷ xs) (suc i) zero d h le low e = absurd (omega arith)
  cut_at (x ∷ xs) (suc i) (suc j) d h le low e = cut_at xs i j d h.1 (omega arith) (omega arith) e
  cut_at (x ∷ xs) zero (suc j) d h le low e =
      elim (p x) as (λ b. p x ≡ b → b ≡ true) [
        | true ↦ λ is. refl
        | false ↦ λ is. absurd (no e (all_at (λ y. p y ≡ false) xs j d (h.0 is) (omega arith)))
      ] refl

  pub cut_partition : (xs : List X) → IsCut xs → IsPartitionedBy p xs
  cut_partition xs h i j d le low e = cut_at xs i j d h le low e

  -- the place that a binary search finds
  pub point_is : (xs : List X) (n : ℕ) → n ≤ length xs → IsPartitionPoint (λ y. p y ≡ true) (λ y. p y ≡ false) xs n → position_or_len (λ y. not (p y)) xs ≡ n
  point_is [] n in_list point = omega arith
  point_is (x ∷ xs) n in_list point =
      position_or_len_is (λ y. not (p y)) (x ∷ xs) n x in_list
      (λ k low. ap not (point.0 k x (omega arith) low))
      (λ low. ap not (point.1 n x (omega arith) low))

unnot : (b : Bool) → not b ≡ true → b ≡ false
unnot true e = absurd (cc)
unnot false e = refl

unnot_false : (b : Bool) → not b ≡ false → b ≡ true
unnot_false true e = refl
unnot_false false e = absurd (cc)

-- the same of a test that fails at the front
pub point_passed : {X : Type 0} (p : X → Bool) (xs : List X) (n : ℕ) → n ≤ length xs → IsPartitionPoint (λ y. not (p y) ≡ true) (λ y. not (p y) ≡ false) xs n → position_or_len p xs ≡ n
point_passed p [] n in_list point = omega arith
point_passed p (x ∷ xs) n in_list point =
    position_or_len_is p (x ∷ xs) n x in_list
    (λ k low. unnot (p (get_or (x ∷ xs) k x)) (point.0 k x (omega arith) low))
    (λ low. unnot_false (p (get_or (x ∷ xs) n x)) (point.1 n x (omega arith) low))

turned : {K : Type 0} {R : K → K → Ordering} → IsTotalOrder R → (key k : K) (r : Ordering) → R k key ≡ r → R key k ≡ ordering_reverse r
turned o key k r e = o.antisymm key k ∙ ap ordering_reverse e

module _ {K X : Type 0} {R : K → K → Ordering} (o : IsTotalOrder R) (key : K) where
  -- the place of the key
  abbrev pub place_of : List (K × X) → ℕ
  place_of es = position_or_len (λ e. not (is_lt (R e.0 key))) es

  abbrev pub is_there : Option (K × X) → Bool
  is_there None = false
  is_there (Some e) = eq_by_cmp R e.0 key

  abbrev pub value_there : Option (K × X) → Option X
  value_there None = None
  value_there (Some e) = cond (eq_by_cmp R e.0 key) (Some e.1) None

  abbrev IsBelow : K → List (K × X) → Type 0
  IsBelow k es = AllByRecursion (λ e. R k e.0 ≡ Less) es

  below_each : (k : K) (es : List (K × X)) → below_all R k es ≡ true → IsBelow k es
  below_each k [] h = tt
  below_each k (e ∷ es) h = (is_lt-Less (R k e.0) (both_first _ _ h), below_each k es (both_second _ _ h))

  below_more : (k x : K) (es : List (K × X)) → R x k ≡ Less → IsBelow k es → IsBelow x es
  below_more k x [] less h = tt
  below_more k x (e ∷ es) less h = (o.trans x k e.0 less h.0, below_more k x es less h.1)

  below_same : (k x : K) (es : List (K × X)) → R x k ≡ Equal → IsBelow k es → IsBelow x es
  below_same k x [] same h = tt
  below_same k x (e ∷ es) same h = (o.congr x k e.0 same ∙ h.0, below_same k x es same h.1)

  find_none : (es : List (K × X)) → IsBelow key es → find R key es ≡ None
  find_none [] h = refl
  find_none (e ∷ es) h = ap (λ r. cond (is_eq r) (Some e.1) (find R key es)) h.0 ∙ find_none es h.1

  kept_all : (es : List (K × X)) → IsBelow key es → where_key R (λ k. not (eq_by_cmp R key k)) es ≡ es
  kept_all [] h = refl
  kept_all (e ∷ es) h =
      let rest = kept_all es h.1 in
      let left = where_key R (λ k. not (eq_by_cmp R key k)) es in
      ap (λ r. cond (not (is_eq r)) (e ∷ left) left) h.0 ∙ ap (λ (xs : List (K × X)). e ∷ xs) rest

  later : (k : K) (es : List (K × X)) → IsBelow k es → is_lt (R k key) ≡ false → AllByRecursion (λ e. is_lt (R e.0 key) ≡ false) es
  later k [] h is = tt
  later k (e ∷ es) h is =
      let rest = later k es h.1 is in
      elim (R e.0 key) as (λ r. R e.0 key ≡ r → is_lt r ≡ false × AllByRecursion (λ f. is_lt (R f.0 key) ≡ false) es) [
        | Less ↦ λ less. absurd (no (ap is_lt (o.trans k e.0 key h.0 less)) is)
        | Equal ↦ λ less. (refl, rest)
        | Greater ↦ λ less. (refl, rest)
      ] refl

  pub sorted_cut : (es : List (K × X)) → is_sorted R es ≡ true → IsCut (λ e. is_lt (R e.0 key)) es
  sorted_cut [] h = tt
  sorted_cut (e ∷ es) h = (λ is. later e.0 es (below_each e.0 es (both_first _ _ h)) is, sorted_cut es (both_second _ _ h))

  all_after : (k : K) (es : List (K × X)) → IsBelow k es → not (is_lt (R key k)) ≡ false → AllByRecursion (λ e. not (is_lt (R key e.0)) ≡ false) es
  all_after k [] h is = tt
  all_after k (e ∷ es) h is =
      (ap (λ r. not (is_lt r)) (o.trans key k e.0 (is_lt-Less (R key k) (unnot_false _ is)) h.0), all_after k es h.1 is)

  pub sorted_cut_after : (es : List (K × X)) → is_sorted R es ≡ true → IsCut (λ e. not (is_lt (R key e.0))) es
  sorted_cut_after [] h = tt
  sorted_cut_after (e ∷ es) h = (λ is. all_after e.0 es (below_each e.0 es (both_first _ _ h)) is, sorted_cut_after es (both_second _ _ h))

  pub found_there : (es : List (K × X)) → is_sorted R es ≡ true → find R key es ≡ value_there (slice_get es (place_of es))
  found_there [] h = refl
  found_there (e ∷ es) h =
      let rest = found_there es (both_second _ _ h) in
      let below = below_each e.0 es (both_first _ _ h) in
      let n = place_of es in
      elim (R e.0 key) as (λ r. R e.0 key ≡ r → cond (is_eq (R key e.0)) (Some e.1) (find R key es) ≡ value_there (slice_get (e ∷ es) (cond (not (not (is_lt r))) (1 + n) 0))) [
        | Less ↦ λ is. ap (λ r. cond (is_eq r) (Some e.1) (find R key es)) (turned o key e.0 Less is) ∙ rest ∙ ap (λ k. value_there (slice_get (e ∷ es) k)) (sym (one_more n))
        | Equal ↦ λ is. ap (λ r. cond (is_eq r) (Some e.1) (find R key es)) (turned o key e.0 Equal is) ∙ sym (ap (λ r. cond (is_eq r) (Some e.1) None) is)
        | Greater ↦ λ is.
            ap (λ r. cond (is_eq r) (Some e.1) (find R key es)) (turned o key e.0 Greater is)
            ∙ find_none es (below_more e.0 key es (turned o key e.0 Greater is) below) ∙ sym (ap (λ r. cond (is_eq r) (Some e.1) None) is)
      ] refl

  -- a new key goes to its place
  pub inserted : (value : X) (es : List (K × X)) → is_there (slice_get es (place_of es)) ≡ false → insert es (place_of es) (key, value) ≡ put R key value es
  inserted value [] new = refl
  inserted value (e ∷ es) new =
      let rest = inserted value es in
      let n = place_of es in
      elim (R e.0 key) as (λ r. R e.0 key ≡ r → is_there (slice_get (e ∷ es) (cond (not (not (is_lt r))) (1 + n) 0)) ≡ false → insert (e ∷ es) (cond (not (not (is_lt r))) (1 + n) 0) (key, value) ≡ put R key value (e ∷ es)) [
        | Less ↦ λ is q. rw (one_more n, turned o key e.0 Less is) (ap (λ (xs : List (K × X)). e ∷ xs) (rest (rw (one_more n) at q)))
        | Equal ↦ λ is q. absurd (no (ap is_eq is) q)
        | Greater ↦ λ is q. rw (turned o key e.0 Greater is) refl
      ] refl new

  -- the value of a key that is there is replaced at its place
  pub replaced : IsAntisymmetric R → (value : X) (es : List (K × X)) → is_there (slice_get es (place_of es)) ≡ true → set es (place_of es) (key, value) ≡ put R key value es
  replaced same value [] there = absurd (cc)
  replaced same value (e ∷ es) there =
      let rest = replaced same value es in
      let n = place_of es in
      elim (R e.0 key) as (λ r. R e.0 key ≡ r → is_there (slice_get (e ∷ es) (cond (not (not (is_lt r))) (1 + n) 0)) ≡ true → set (e ∷ es) (cond (not (not (is_lt r))) (1 + n) 0) (key, value) ≡ put R key value (e ∷ es)) [
        | Less ↦ λ is q. rw (one_more n, turned o key e.0 Less is) (ap (λ (xs : List (K × X)). e ∷ xs) (rest (rw (one_more n) at q)))
        | Equal ↦ λ is q. rw (turned o key e.0 Equal is) (ap (λ (k : K). (k, value) ∷ es) (sym (same e.0 key is)))
        | Greater ↦ λ is q. absurd (unequal (R e.0 key) is q)
      ] refl there

  -- a key that is there is taken out at its place
  pub removed : (es : List (K × X)) → is_sorted R es ≡ true → is_there (slice_get es (place_of es)) ≡ true → remove es (place_of es) ≡ where_key R (λ k. not (eq_by_cmp R key k)) es
  removed [] h there = refl
  removed (e ∷ es) h there =
      let rest = removed es (both_second _ _ h) in
      let below = below_each e.0 es (both_first _ _ h) in
      let n = place_of es in
      let left = where_key R (λ k. not (eq_by_cmp R key k)) es in
      elim (R e.0 key) as (λ r. R e.0 key ≡ r → is_there (slice_get (e ∷ es) (cond (not (not (is_lt r))) (1 + n) 0)) ≡ true → remove (e ∷ es) (cond (not (not (is_lt r))) (1 + n) 0) ≡ cond (not (is_eq (R key e.0))) (e ∷ left) left) [
        | Less ↦ λ is q. rw (one_more n, turned o key e.0 Less is) (ap (λ (xs : List (K × X)). e ∷ xs) (rest (rw (one_more n) at q)))
        | Equal ↦ λ is q. rw (turned o key e.0 Equal is) (sym (kept_all es (below_same e.0 key es (turned o key e.0 Equal is) below)))
        | Greater ↦ λ is q. absurd (unequal (R e.0 key) is q)
      ] refl there

  -- nothing is taken out where the key is not there
  pub nothing_removed : (es : List (K × X)) → find R key es ≡ None → where_key R (λ k. not (eq_by_cmp R key k)) es ≡ es
  nothing_removed [] none = refl
  nothing_removed (e ∷ es) none =
      let rest = nothing_removed es in
      let left = where_key R (λ k. not (eq_by_cmp R key k)) es in
      elim (eq_by_cmp R key e.0) as (λ b. cond b (Some e.1) (find R key es) ≡ None → cond (not b) (e ∷ left) left ≡ e ∷ es) [
        | true ↦ λ q. absurd (cc)
        | false ↦ λ q. ap (λ (xs : List (K × X)). e ∷ xs) (rest q)
      ] none
