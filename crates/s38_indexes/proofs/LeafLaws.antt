-- An entry that goes into one of the leaves, or out of one, goes into the entries of all, or out of them.
use Rattle.std.proofs.Common.{◌≡◌, ℕ, ◌+◌, ◌<◌, ◌≤◌, true, false, cond, not, List, [], ◌∷◌, ◌++◌, length, zero, get_or, take, drop, suc, refl, sym, ◌∙◌, ap, arith, append_assoc, set, subst}
use Rattle.std.proofs.lemmas.List.{append-nil, set-get_or, set_split}
use Rattle.std.proofs.lemmas.List.Folds.{find-append}
use Rattle.std.specs.Prelude.{Option, Some, None, OnOk, OnErr, is_some, remove}
use Rattle.std.specs.Option.{option_or}
use Rattle.std.specs.List.{AllByRecursion, position_or_len}
use Rattle.std.specs.declared.cmp.Ordering.TheVariants.{Less, Equal, Greater}
use Rattle.std.specs.declared.result.Result.{Result}
use Rattle.std.specs.declared.result.Result.TheVariants.{Ok, Err}
use Rattle.s38_base.specs.Relations.{is_equal, is_less}
use Rattle.s38_base.specs.declared.words.Relation.TheVariants.{Eq, Lo}
use Rattle.s38_indexes.specs.Entries.{IndexEntry, has_entry, index_with_entry, is_in_relation, least, order, without_entry}
use Rattle.s38_indexes.specs.Leaves.{IsPlaceFor, NoneEmpty, first_reaching, joined, least_past, reaches, with_leaf}
use Rattle.s38_indexes.proofs.OrderLaws.{length-with, none_before_len, without_none}

pub joined-append : (ls ms : List (List IndexEntry)) → joined (ls ++ ms) ≡ joined ls ++ joined ms
joined-append [] ms = refl
joined-append (l ∷ ls) ms = ap (λ xs. l ++ xs) (joined-append ls ms) ∙ sym (append_assoc l (joined ls) (joined ms))

-- ---- the leaf into which an entry goes

held_up : (x : IndexEntry) (o : Option IndexEntry) → is_some (cond true (Some x) o) ≡ false → ⊥
held_up x o e = cc

nothing_below : {n : ℕ} → n < 0 → ⊥
nothing_below h = omega arith

-- an entry that no entry of a leaf holds up goes after the leaf
pub past : (key : IndexEntry) (xs ys : List IndexEntry) → reaches key xs ≡ false → index_with_entry key (xs ++ ys) ≡ xs ++ index_with_entry key ys
past key [] ys e = refl
past key (x ∷ xs) ys e =
    let rest = past key xs ys in
    elim (is_in_relation Lo key x) as (λ b. is_some (cond (not b) (Some x) (least_past Lo key xs)) ≡ false → cond b (x ∷ index_with_entry key (xs ++ ys)) (key ∷ x ∷ (xs ++ ys)) ≡ x ∷ (xs ++ index_with_entry key ys)) [
      | true ↦ λ q. ap (λ (zs : List IndexEntry). x ∷ zs) (rest q)
      | false ↦ λ q. absurd (held_up x (least_past Lo key xs) q)
    ] e

-- and one that an entry holds up goes into the leaf
pub within : (key : IndexEntry) (xs ys : List IndexEntry) → reaches key xs ≡ true → index_with_entry key (xs ++ ys) ≡ index_with_entry key xs ++ ys
within key [] ys e = absurd (cc)
within key (x ∷ xs) ys e =
    let rest = within key xs ys in
    elim (is_in_relation Lo key x) as (λ b. is_some (cond (not b) (Some x) (least_past Lo key xs)) ≡ true → cond b (x ∷ index_with_entry key (xs ++ ys)) (key ∷ x ∷ (xs ++ ys)) ≡ cond b (x ∷ index_with_entry key xs) (key ∷ x ∷ xs) ++ ys) [
      | true ↦ λ q. ap (λ (zs : List IndexEntry). x ∷ zs) (rest q)
      | false ↦ λ q. refl
    ] e

pub one_more : (n : ℕ) → 1 + n ≡ suc n
one_more n = omega arith

first_joins : (key : IndexEntry) (ls : List (List IndexEntry)) → position_or_len (reaches key) ls < length ls → let n = position_or_len (reaches key) ls in joined (with_leaf ls n (index_with_entry key (get_or ls n []))) ≡ index_with_entry key (joined ls)
first_joins key [] low = absurd (nothing_below low)
first_joins key (l ∷ ls) low =
    let rest = first_joins key ls in
    let n = position_or_len (reaches key) ls in
    elim (reaches key l) as (λ b. reaches key l ≡ b → cond (not b) (1 + n) 0 < suc (length ls) → joined (with_leaf (l ∷ ls) (cond (not b) (1 + n) 0) (index_with_entry key (get_or (l ∷ ls) (cond (not b) (1 + n) 0) []))) ≡ index_with_entry key (l ++ joined ls)) [
      | true ↦ λ is q. sym (within key l (joined ls) is)
      | false ↦ λ is q. rw (one_more n) (ap (λ (zs : List IndexEntry). l ++ zs) (rest (omega arith)) ∙ sym (past key l (joined ls) is))
    ] refl low

last_joins : (key : IndexEntry) (l : List IndexEntry) (ls : List (List IndexEntry)) → AllByRecursion (λ m. reaches key m ≡ false) (l ∷ ls) → joined (with_leaf (l ∷ ls) (length ls) (index_with_entry key (get_or (l ∷ ls) (length ls) []))) ≡ index_with_entry key (joined (l ∷ ls))
last_joins key l [] h = append-nil (index_with_entry key l) ∙ ap (λ zs. index_with_entry key zs) (sym (append-nil l))
last_joins key l (m ∷ ms) h = ap (λ (zs : List IndexEntry). l ++ zs) (last_joins key m ms h.1) ∙ sym (past key l (joined (m ∷ ms)) h.0)

pub first_place : (key : IndexEntry) (ls : List (List IndexEntry)) (i : ℕ) → i ≡ first_reaching key ls → i < length ls → IsPlaceFor key ls i
first_place key ls i e low =
    let n = first_reaching key ls in
    let below : n < length ls = subst (λ k. k < length ls) e low in
    subst (λ k. IsPlaceFor key ls k) (sym e) (record { inside = below; joins = first_joins key ls below })

pub last_place : (key : IndexEntry) (ls : List (List IndexEntry)) (i k : ℕ) → i ≡ first_reaching key ls → length ls ≤ i → suc k ≡ length ls → IsPlaceFor key ls k
last_place key [] i k e high n = absurd (cc)
last_place key (l ∷ ls) i k e high n =
    let is : length ls ≡ k = omega (arith, n) in
    let none = none_before_len (reaches key) (l ∷ ls) (subst (λ m. length (l ∷ ls) ≤ m) e high) in
    subst (λ m. IsPlaceFor key (l ∷ ls) m) is (record { inside = omega arith; joins = last_joins key l ls none })

-- ---- leaves before and after one

pub joined-around : (b : List (List IndexEntry)) (l : List IndexEntry) (r : List (List IndexEntry)) → joined (b ++ l ∷ r) ≡ joined b ++ (l ++ joined r)
joined-around b l r = joined-append b (l ∷ r)

opened : (ls : List (List IndexEntry)) (i : ℕ) → i < length ls → ls ≡ take i ls ++ get_or ls i [] ∷ drop (suc i) ls
opened (l ∷ ls) zero low = refl
opened (l ∷ ls) (suc i) low = ap (λ (ms : List (List IndexEntry)). l ∷ ms) (opened ls i (omega arith))
opened [] i low = absurd (nothing_below low)

-- a leaf that keeps its entries may change
pub joined-with_leaf : (ls : List (List IndexEntry)) (i : ℕ) (l : List IndexEntry) → joined (with_leaf ls i l) ≡ joined (take i ls) ++ (l ++ joined (drop (suc i) ls))
joined-with_leaf ls i l = joined-around (take i ls) l (drop (suc i) ls)

pub joined-opened : (ls : List (List IndexEntry)) (i : ℕ) → i < length ls → joined ls ≡ joined (take i ls) ++ (get_or ls i [] ++ joined (drop (suc i) ls))
joined-opened ls i low = ap joined (opened ls i low) ∙ joined-with_leaf ls i (get_or ls i [])

-- ---- an entry goes into its leaf, or out of it

new_in_leaf : (key : IndexEntry) (xs ys zs : List IndexEntry) → has_entry key (xs ++ (ys ++ zs)) ≡ false → has_entry key ys ≡ false
new_in_leaf key xs ys zs e = middle (least Eq key xs) (least Eq key ys) (least Eq key zs) (ap is_some (sym (find-append (is_in_relation Eq key) xs (ys ++ zs) ∙ ap (λ o. option_or (least Eq key xs) o) (find-append (is_in_relation Eq key) ys zs))) ∙ e)
  where
    middle : (o p q : Option IndexEntry) → is_some (option_or o (option_or p q)) ≡ false → is_some p ≡ false
    middle (Some x) p q e = absurd (cc)
    middle None (Some y) q e = absurd (cc)
    middle None None q e = refl

pub new_at : (key : IndexEntry) (ls : List (List IndexEntry)) (i : ℕ) → i < length ls → has_entry key (joined ls) ≡ false → has_entry key (get_or ls i []) ≡ false
new_at key ls i low e = new_in_leaf key (joined (take i ls)) (get_or ls i []) (joined (drop (suc i) ls)) (ap (has_entry key) (sym (joined-opened ls i low)) ∙ e)

pub added_at : (key : IndexEntry) (old new : List (List IndexEntry)) (i : ℕ) → IsPlaceFor key old i → new ≡ set old i (index_with_entry key (get_or old i [])) → joined new ≡ index_with_entry key (joined old)
added_at key old new i h e = ap joined (e ∙ set_split old i (index_with_entry key (get_or old i [])) h.inside) ∙ h.joins

without_past : (key : IndexEntry) (xs ys : List IndexEntry) → has_entry key xs ≡ false → without_entry key (xs ++ ys) ≡ xs ++ without_entry key ys
without_past key [] ys e = refl
without_past key (x ∷ xs) ys e =
    let rest = without_past key xs ys in
    elim (is_in_relation Eq key x) as (λ b. is_some (cond b (Some x) (least Eq key xs)) ≡ false → cond b (xs ++ ys) (x ∷ without_entry key (xs ++ ys)) ≡ x ∷ (xs ++ without_entry key ys)) [
      | true ↦ λ q. absurd (held_up x (least Eq key xs) q)
      | false ↦ λ q. ap (λ (zs : List IndexEntry). x ∷ zs) (rest q)
    ] e

without_within : (key : IndexEntry) (xs ys : List IndexEntry) → has_entry key xs ≡ true → without_entry key (xs ++ ys) ≡ without_entry key xs ++ ys
without_within key [] ys e = absurd (cc)
without_within key (x ∷ xs) ys e =
    let rest = without_within key xs ys in
    elim (is_in_relation Eq key x) as (λ b. is_some (cond b (Some x) (least Eq key xs)) ≡ true → cond b (xs ++ ys) (x ∷ without_entry key (xs ++ ys)) ≡ cond b xs (x ∷ without_entry key xs) ++ ys) [
      | true ↦ λ q. refl
      | false ↦ λ q. ap (λ (zs : List IndexEntry). x ∷ zs) (rest q)
    ] e

unreached : (key : IndexEntry) (xs : List IndexEntry) → reaches key xs ≡ false → has_entry key xs ≡ false
unreached key [] e = refl
unreached key (x ∷ xs) e =
    let rest = unreached key xs in
    elim (order x key) as (λ o. is_some (cond (not (is_less o)) (Some x) (least_past Lo key xs)) ≡ false → is_some (cond (is_equal o) (Some x) (least Eq key xs)) ≡ false) [
      | Less ↦ λ q. rest q
      | Equal ↦ λ q. absurd (held_up x (least_past Lo key xs) q)
      | Greater ↦ λ q. absurd (held_up x (least_past Lo key xs) q)
    ] e

first_without : (key : IndexEntry) (ls : List (List IndexEntry)) → first_reaching key ls < length ls → has_entry key (get_or ls (first_reaching key ls) []) ≡ true → let n = first_reaching key ls in joined (with_leaf ls n (without_entry key (get_or ls n []))) ≡ without_entry key (joined ls)
first_without key [] low held = absurd (nothing_below low)
first_without key (l ∷ ls) low held =
    let rest = first_without key ls in
    let n = first_reaching key ls in
    elim (reaches key l) as (λ b. reaches key l ≡ b → cond (not b) (1 + n) 0 < suc (length ls) → has_entry key (get_or (l ∷ ls) (cond (not b) (1 + n) 0) []) ≡ true → joined (with_leaf (l ∷ ls) (cond (not b) (1 + n) 0) (without_entry key (get_or (l ∷ ls) (cond (not b) (1 + n) 0) []))) ≡ without_entry key (l ++ joined ls)) [
      | true ↦ λ is q h. sym (without_within key l (joined ls) h)
      | false ↦ λ is q h. rw (one_more n) (ap (λ (zs : List IndexEntry). l ++ zs) (rest (omega arith) (rw (one_more n) at h)) ∙ sym (without_past key l (joined ls) (unreached key l is)))
    ] refl low held

pub removed_in : (key : IndexEntry) (ls new : List (List IndexEntry)) (i : ℕ) → i ≡ first_reaching key ls → i < length ls → has_entry key (get_or ls i []) ≡ true → new ≡ set ls i (without_entry key (get_or ls i [])) → joined new ≡ without_entry key (joined ls)
removed_in key ls new i e low held is =
    let n = first_reaching key ls in
    ap joined (is ∙ set_split ls i (without_entry key (get_or ls i [])) low)
    ∙ ap (λ k. joined (with_leaf ls k (without_entry key (get_or ls k [])))) e
    ∙ first_without key ls (subst (λ k. k < length ls) e low) (ap (λ k. has_entry key (get_or ls k [])) (sym e) ∙ held)

-- ---- what is held is held by the first leaf that reaches it

pub kept_all : (key : IndexEntry) (ls new : List (List IndexEntry)) (i : ℕ) → has_entry key (get_or ls i []) ≡ false → new ≡ set ls i (without_entry key (get_or ls i [])) → new ≡ ls
kept_all key ls new i e is =
    is ∙ ap (λ l. set ls i l) (sym (without_none key (get_or ls i []) e)) ∙ set-get_or ls i []

-- ---- no leaf is empty

pub all_set : {X : Type 0} (P : X → Type 0) (xs : List X) (i : ℕ) (y : X) → AllByRecursion P xs → P y → AllByRecursion P (set xs i y)
all_set P [] i y h g = tt
all_set P (x ∷ xs) zero y h g = (g, h.1)
all_set P (x ∷ xs) (suc i) y h g = (h.0, all_set P xs i y h.1 g)

pub others_after : {X : Type 0} (P : X → Type 0) (xs : List X) (i : ℕ) (y : X) → i < length xs → AllByRecursion P xs → AllByRecursion P (remove (set xs i y) i)
others_after P [] i y low h = absurd (nothing_below low)
others_after P (x ∷ xs) zero y low h = h.1
others_after P (x ∷ xs) (suc i) y low h = (h.0, others_after P xs i y (omega arith) h.1)

pub all_again : {X : Type 0} (P : X → Type 0) (xs : List X) (i : ℕ) (d : X) → i < length xs → AllByRecursion P (remove xs i) → P (get_or xs i d) → AllByRecursion P xs
all_again P [] i d low h g = tt
all_again P (x ∷ xs) zero d low h g = (g, h)
all_again P (x ∷ xs) (suc i) d low h g = (h.0, all_again P xs i d (omega arith) h.1 g)

pub some_long : (l : List IndexEntry) → (l ≡ [] → ⊥) → 1 ≤ length l
some_long [] h = absurd (h refl)
some_long (x ∷ l) h = omega arith

pub with_long : (key : IndexEntry) (xs : List IndexEntry) → 1 ≤ length (index_with_entry key xs)
with_long key xs = let longer = length-with key xs in omega arith

pub added_long : {A E : Type 0} (r : Result A E) (key : IndexEntry) (old new : List (List IndexEntry)) (i : ℕ) → OnOk r (new ≡ set old i (index_with_entry key (get_or old i []))) → OnErr r (new ≡ old) → NoneEmpty old → NoneEmpty new
added_long (Ok a) key old new i ok err h = subst NoneEmpty (sym ok) (all_set (λ (l : List IndexEntry). 1 ≤ length l) old i (index_with_entry key (get_or old i [])) h (with_long key (get_or old i [])))
added_long (Err e) key old new i ok err h = subst NoneEmpty (sym err) h

-- a leaf without an entry may go
pub emptied : (ls : List (List IndexEntry)) (i : ℕ) → i < length ls → get_or ls i [] ≡ [] → joined (remove ls i) ≡ joined ls
emptied ls i low none =
    joined-append (take i ls) (drop (suc i) ls)
    ∙ ap (λ xs. joined (take i ls) ++ (xs ++ joined (drop (suc i) ls))) (sym none)
    ∙ sym (joined-opened ls i low)
