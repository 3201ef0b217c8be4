-- What a search finds in all leaves it finds in one of them.
use Rattle.std.proofs.Common.{◌≡◌, ℕ, ◌+◌, ◌<◌, ◌≤◌, Bool, true, false, cond, not, List, [], ◌∷◌, ◌++◌, length, length-drop, zero, get_or, take, drop, suc, refl, sym, ◌∙◌, ap, arith, add-one, drop-cons, subst}
use Rattle.std.proofs.Math.ListN.{get_or-eq_default}
use Rattle.std.proofs.lemmas.List.{append-nil, get_or-drop, reverse-append, take-append-drop, take_more}
use Rattle.std.proofs.lemmas.List.Folds.{find-append}
use Rattle.std.proofs.lemmas.Option.{get_or_from_slice_get, slice_get_read}
use Rattle.std.specs.Prelude.{Option, Some, None, find, is_some, reverse}
use Rattle.std.specs.Option.{option_or}
use Rattle.std.specs.List.{AllByRecursion, AllWithin, position_or_len}
use Rattle.s38_base.specs.declared.words.Relation.TheVariants.{Lo}
use Rattle.s38_indexes.specs.Entries.{IndexEntry, IsRising, has_entry}
use Rattle.s38_indexes.specs.Leaves.{NoneEmpty, first_reaching, is_equal_to, joined, misses}
use Rattle.s38_indexes.proofs.CutLaws.{IsCut, all_both, all_from_within, all_second, none_found, none_found_back, none_passes, unnot_false}
use Rattle.s38_indexes.proofs.OrderLaws.{all_first, held_is, rising_first, rising_later}
use Rattle.s38_indexes.proofs.LeafLaws.{joined-append, one_more}

from_here : (ls : List (List IndexEntry)) (i : ℕ) (l : List IndexEntry) → i < length ls → l ≡ get_or ls i l → drop i ls ≡ l ∷ drop (i + 1) ls
from_here ls i l low is = rw (drop-cons ls i l low, ← is, add-one) refl

ahead : (p : IndexEntry → Bool) (ls : List (List IndexEntry)) (i : ℕ) (l : List IndexEntry) → i < length ls → l ≡ get_or ls i l → find p (joined (drop i ls)) ≡ option_or (find p l) (find p (joined (drop (i + 1) ls)))
ahead p ls i l low is = ap (λ ms. find p (joined ms)) (from_here ls i l low is) ∙ find-append p l (joined (drop (i + 1) ls))

pub found_in : (p : IndexEntry → Bool) (ls : List (List IndexEntry)) (i : ℕ) (l : List IndexEntry) (e : IndexEntry) → i < length ls → l ≡ get_or ls i l → Some e ≡ find p l → Some e ≡ find p (joined (drop i ls))
found_in p ls i l e low is found = sym (ahead p ls i l low is ∙ ap (λ o. option_or o (find p (joined (drop (i + 1) ls)))) (sym found))

pub missed_in : (p : IndexEntry → Bool) (ls : List (List IndexEntry)) (i : ℕ) (l : List IndexEntry) → i < length ls → l ≡ get_or ls i l → None ≡ find p l → find p (joined (drop i ls)) ≡ find p (joined (drop (i + 1) ls))
missed_in p ls i l low is missed = ahead p ls i l low is ∙ ap (λ o. option_or o (find p (joined (drop (i + 1) ls)))) (sym missed)

up_to : (ls : List (List IndexEntry)) (n i : ℕ) (l : List IndexEntry) → n ≡ i + 1 → i < length ls → l ≡ get_or ls i l → joined (take n ls) ≡ joined (take i ls) ++ l
up_to ls n i l next low is =
    ap (λ k. joined (take k ls)) next
    ∙ ap joined (take_more ls i l low)
    ∙ ap (λ m. joined (take i ls ++ m ∷ [])) (sym is)
    ∙ joined-append (take i ls) (l ∷ [])
    ∙ ap (λ xs. joined (take i ls) ++ xs) (append-nil l)

behind : (p : IndexEntry → Bool) (ls : List (List IndexEntry)) (n i : ℕ) (l : List IndexEntry) → n ≡ i + 1 → i < length ls → l ≡ get_or ls i l → find p (reverse (joined (take n ls))) ≡ option_or (find p (reverse l)) (find p (reverse (joined (take i ls))))
behind p ls n i l next low is =
    ap (λ xs. find p (reverse xs)) (up_to ls n i l next low is)
    ∙ ap (λ xs. find p xs) (reverse-append (joined (take i ls)) l)
    ∙ find-append p (reverse l) (reverse (joined (take i ls)))

leaf_rises : (ls : List (List IndexEntry)) (i : ℕ) → IsRising (joined ls) → IsRising (get_or ls i [])
leaf_rises [] i h = tt
leaf_rises (l ∷ ls) zero h = rising_first l (joined ls) h
leaf_rises (l ∷ ls) (suc i) h = leaf_rises ls i (rising_later l (joined ls) h)

pub find_joined : (p : IndexEntry → Bool) (ls : List (List IndexEntry)) → find p (joined ls) ≡ find p (get_or ls (position_or_len (λ l. is_some (find p l)) ls) [])
find_joined p [] = refl
find_joined p (l ∷ ls) =
    let rest = find_joined p ls in
    let n = position_or_len (λ m. is_some (find p m)) ls in
    find-append p l (joined ls)
    ∙ elim (find p l) as (λ o. find p l ≡ o → option_or o (find p (joined ls)) ≡ find p (get_or (l ∷ ls) (cond (not (is_some o)) (1 + n) 0) [])) [
      | Some e ↦ λ is. sym is
      | None ↦ λ is. rw (one_more n) rest
    ] refl

pub held_in_first : (key : IndexEntry) (ls : List (List IndexEntry)) → IsRising (joined ls) → has_entry key (joined ls) ≡ has_entry key (get_or ls (first_reaching key ls) [])
held_in_first key ls h =
    held_is key (joined ls) h
    ∙ ap (is_equal_to key) (find_joined (misses Lo key) ls)
    ∙ sym (held_is key (get_or ls (first_reaching key ls) []) (leaf_rises ls (first_reaching key ls) h))

pub held_inside : (key : IndexEntry) (ls : List (List IndexEntry)) (i : ℕ) → IsRising (joined ls) → i ≡ first_reaching key ls → has_entry key (joined ls) ≡ has_entry key (get_or ls i [])
held_inside key ls i h e = held_in_first key ls h ∙ ap (λ k. has_entry key (get_or ls k [])) (sym e)

pub held_past : (key : IndexEntry) (ls : List (List IndexEntry)) (i : ℕ) → IsRising (joined ls) → i ≡ first_reaching key ls → length ls ≤ i → has_entry key (joined ls) ≡ false
held_past key ls i h e high = held_inside key ls i h e ∙ ap (has_entry key) (get_or-eq_default ls [] high)

pub found_at : (p : IndexEntry → Bool) (ls : List (List IndexEntry)) (i : ℕ) (l : List IndexEntry) → i ≡ position_or_len (λ m. is_some (find p m)) ls → i < length ls → l ≡ get_or ls i l → find p l ≡ find p (joined ls)
found_at p ls i l e low is =
    ap (find p) (sym (get_or_from_slice_get ls i l [] (slice_get_read ls (length ls) i l refl low is)))
    ∙ ap (λ k. find p (get_or ls k [])) e
    ∙ sym (find_joined p ls)

pub found_nowhere : (p : IndexEntry → Bool) (ls : List (List IndexEntry)) (i : ℕ) → i ≡ position_or_len (λ m. is_some (find p m)) ls → length ls ≤ i → find p (joined ls) ≡ None
found_nowhere p ls i e high = find_joined p ls ∙ ap (λ k. find p (get_or ls k [])) (sym e) ∙ ap (find p) (get_or-eq_default ls [] high)

none_joined : (p : IndexEntry → Bool) (ls : List (List IndexEntry)) → AllByRecursion (λ l. is_some (find p l) ≡ false) ls → AllByRecursion (λ e. p e ≡ false) (joined ls)
none_joined p [] h = tt
none_joined p (l ∷ ls) h = all_both (λ e. p e ≡ false) l (joined ls) (none_passes p l h.0) (none_joined p ls h.1)

pub none_back : (p : IndexEntry → Bool) (ls : List (List IndexEntry)) → AllWithin (λ l. is_some (find p l) ≡ false) ls 0 (length ls) → find p (reverse (joined ls)) ≡ None
none_back p ls h = none_found_back p (joined ls) (none_joined p ls (all_from_within (λ l. is_some (find p l) ≡ false) ls h))

later_within : (P : List IndexEntry → Type 0) (ls : List (List IndexEntry)) (n : ℕ) → AllWithin P ls n (length ls) → AllWithin P (drop n ls) 0 (length (drop n ls))
later_within P ls n h k d low high =
    let shorter = length-drop n ls in
    subst P (sym (get_or-drop n ls k d)) (h (n + k) d (omega arith) (omega arith))

some_back : (p : IndexEntry → Bool) (xs : List IndexEntry) (o : Option IndexEntry) → is_some (find p xs) ≡ true → option_or (find p (reverse xs)) o ≡ find p (reverse xs)
some_back p [] o e = absurd (cc)
some_back p (x ∷ xs) o e =
    let rest = some_back p xs in
    rw (reverse-append (x ∷ []) xs, find-append p (reverse xs) (x ∷ []))
    (elim (p x) as (λ b. is_some (cond b (Some x) (find p xs)) ≡ true → option_or (option_or (find p (reverse xs)) (cond b (Some x) None)) o ≡ option_or (find p (reverse xs)) (cond b (Some x) None)) [
      | true ↦ λ q. some_or (find p (reverse xs)) x o
      | false ↦ λ q. ap (λ r. option_or r o) (rest None q) ∙ rest o q ∙ sym (rest None q)
    ] e)
  where
    some_or : (r : Option IndexEntry) (x : IndexEntry) (o : Option IndexEntry) → option_or (option_or r (Some x)) o ≡ option_or r (Some x)
    some_or None x o = refl
    some_or (Some y) x o = refl

pub found_last : (p : IndexEntry → Bool) (ls : List (List IndexEntry)) (n i : ℕ) (l : List IndexEntry) → n ≡ i + 1 → i < length ls → l ≡ get_or ls i l → AllWithin (λ m. is_some (find p m) ≡ true) ls 0 n → AllWithin (λ m. is_some (find p m) ≡ false) ls n (length ls) → find p (reverse l) ≡ find p (reverse (joined ls))
found_last p ls n i l next low is some none =
    let here : is_some (find p l) ≡ true = ap (λ m. is_some (find p m)) is ∙ some i l (omega arith) (omega arith) in
    let after = none_back p (drop n ls) (later_within (λ m. is_some (find p m) ≡ false) ls n none) in
    sym (
    ap (λ ms. find p (reverse (joined ms))) (sym (take-append-drop n ls))
    ∙ ap (λ xs. find p (reverse xs)) (joined-append (take n ls) (drop n ls))
    ∙ ap (λ xs. find p xs) (reverse-append (joined (take n ls)) (joined (drop n ls)))
    ∙ find-append p (reverse (joined (drop n ls))) (reverse (joined (take n ls)))
    ∙ ap (λ o. option_or o (find p (reverse (joined (take n ls))))) after
    ∙ behind p ls n i l next low is
    ∙ some_back p l (find p (reverse (joined (take i ls)))) here
    )

cut_later : (p : IndexEntry → Bool) (xs ys : List IndexEntry) → IsCut p (xs ++ ys) → IsCut p ys
cut_later p [] ys h = h
cut_later p (x ∷ xs) ys h = cut_later p xs ys h.1

none_after : (p : IndexEntry → Bool) (xs ys : List IndexEntry) → IsCut p (xs ++ ys) → is_some (find (λ e. not (p e)) xs) ≡ true → AllByRecursion (λ e. p e ≡ false) ys
none_after p [] ys h e = absurd (cc)
none_after p (x ∷ xs) ys h e =
    let rest = none_after p xs ys h.1 in
    elim (p x) as (λ b. p x ≡ b → is_some (cond (not b) (Some x) (find (λ z. not (p z)) xs)) ≡ true → AllByRecursion (λ z. p z ≡ false) ys) [
      | true ↦ λ is q. rest q
      | false ↦ λ is q. all_second (λ z. p z ≡ false) xs ys (h.0 is)
    ] refl e

none_after_first : (p : IndexEntry → Bool) (xs ys : List IndexEntry) → IsCut p (xs ++ ys) → 1 ≤ length xs → is_some (find p xs) ≡ false → AllByRecursion (λ e. p e ≡ false) ys
none_after_first p [] ys h long e = absurd (omega arith)
none_after_first p (x ∷ xs) ys h long e = all_second (λ z. p z ≡ false) xs ys (h.0 (none_passes p (x ∷ xs) e).0)

none_of_each : (p : IndexEntry → Bool) (ls : List (List IndexEntry)) → AllByRecursion (λ e. p e ≡ false) (joined ls) → AllByRecursion (λ l. is_some (find p l) ≡ false) ls
none_of_each p [] h = tt
none_of_each p (l ∷ ls) h =
    (ap is_some (none_found p l (all_first (λ e. p e ≡ false) l (joined ls) h)), none_of_each p ls (all_second (λ e. p e ≡ false) l (joined ls) h))

pub cut_has : (p : IndexEntry → Bool) (ls : List (List IndexEntry)) → IsCut p (joined ls) → NoneEmpty ls → IsCut (λ l. is_some (find p l)) ls
cut_has p [] h long = tt
cut_has p (l ∷ ls) h long =
    (λ e. none_of_each p ls (none_after_first p l (joined ls) h long.0 e), cut_has p ls (cut_later p l (joined ls) h) long.1)

other_first : (p : IndexEntry → Bool) (l : List IndexEntry) → 1 ≤ length l → AllByRecursion (λ e. p e ≡ false) l → not (is_some (find (λ e. not (p e)) l)) ≡ false
other_first p [] long h = absurd (omega arith)
other_first p (x ∷ xs) long h = rw h.0 refl

others_of_each : (p : IndexEntry → Bool) (ls : List (List IndexEntry)) → NoneEmpty ls → AllByRecursion (λ e. p e ≡ false) (joined ls) → AllByRecursion (λ l. not (is_some (find (λ e. not (p e)) l)) ≡ false) ls
others_of_each p [] long h = tt
others_of_each p (l ∷ ls) long h =
    (other_first p l long.0 (all_first (λ e. p e ≡ false) l (joined ls) h), others_of_each p ls long.1 (all_second (λ e. p e ≡ false) l (joined ls) h))

pub cut_passes : (p : IndexEntry → Bool) (ls : List (List IndexEntry)) → IsCut p (joined ls) → NoneEmpty ls → IsCut (λ l. not (is_some (find (λ e. not (p e)) l))) ls
cut_passes p [] h long = tt
cut_passes p (l ∷ ls) h long =
    (λ e. others_of_each p ls long.1 (none_after p l (joined ls) h (unnot_false (is_some (find (λ x. not (p x)) l)) e)), cut_passes p ls (cut_later p l (joined ls) h) long.1)
