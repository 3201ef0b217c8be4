-- The locks of an object are put back into the table of all.
use Rattle.std.proofs.Common.{◌≡◌, ℕ, Bool, true, false, cond, List, [], ◌∷◌, refl, sym, ◌∙◌, ap, subst}
use Rattle.std.proofs.lemmas.Map.{lookup-none}
use Rattle.std.proofs.lemmas.Map.Entries.{none_below_head}
use Rattle.std.proofs.lemmas.Map.Keys.{sorted_tail}
use Rattle.std.proofs.lemmas.Map.Steps.{set_value_same}
use Rattle.std.specs.declared.cmp.Ordering.TheVariants.{Less, Equal, Greater}
use Rattle.std.specs.Prelude.{Option, Some, None, filter, map}
use Rattle.std.specs.Cmp.{nat_cmp_total}
use Rattle.std.specs.Option.{unwrap_or}
use Rattle.std.specs.Ordering.{is_eq, match_ordering, nat_cmp}
use Rattle.std.specs.List.Sorted.{IsStrictlySortedBy}
use Rattle.std.specs.Map.{keys_of, lookup, remove_entry, set_value}
use Rattle.std.specs.Map.Calls.{RetainsPairs}
use Rattle.std.specs.BTreeMap.{insert_entry, is_at}
use Rattle.s38_locks.specs.Locks.{Lock, comes_later, is_locked, with_lock}
use Rattle.s38_locks.specs.Table.{Table, locks_of, with_locks}

is_there : (locks : List Lock) → Some locks ≡ None → ⊥
is_there locks e = cc

pub put_back : (object : ℕ) (table : Table) (old new : List Lock) → lookup (is_at (nat_cmp object)) table ≡ Some old → IsStrictlySortedBy nat_cmp (keys_of table) → set_value (is_at (nat_cmp object)) table new ≡ insert_entry nat_cmp table object new
put_back object [] old new found sorted = absurd (is_there old (sym found))
put_back object (e ∷ es) old new found sorted =
    let rest = put_back object es old new in
    elim (nat_cmp object e.0) as (λ r. nat_cmp object e.0 ≡ r → cond (is_eq r) (Some e.1) (lookup (is_at (nat_cmp object)) es) ≡ Some old → cond (is_eq r) ((e.0, new) ∷ es) (e ∷ set_value (is_at (nat_cmp object)) es new) ≡ match_ordering r ((object, new) ∷ e ∷ es) ((e.0, new) ∷ es) (e ∷ insert_entry nat_cmp es object new)) [
      | Less ↦ λ is q. absurd (is_there old (sym found ∙ lookup-none (is_at (nat_cmp object)) (e ∷ es) (none_below_head nat_cmp_total object e es sorted is)))
      | Equal ↦ λ is q. refl
      | Greater ↦ λ is q. ap (λ (t : Table). e ∷ t) (rest q (sorted_tail nat_cmp e.0 (keys_of es) sorted))
    ] refl found

pub put_back_locked : (object : ℕ) (table : Table) (old new : List Lock) → lookup (is_at (nat_cmp object)) table ≡ Some old → IsStrictlySortedBy nat_cmp (keys_of table) → is_locked new ≡ true → set_value (is_at (nat_cmp object)) table new ≡ with_locks table object new
put_back_locked object table old [] found sorted locked = absurd (cc)
put_back_locked object table old (l ∷ ls) found sorted locked = put_back object table old (l ∷ ls) found sorted

-- an object whose last lock is given up leaves the table
pub put_back_unlocked : (object : ℕ) (table : Table) (new : List Lock) → is_locked new ≡ false → remove_entry (is_at (nat_cmp object)) (set_value (is_at (nat_cmp object)) table new) ≡ with_locks table object new
put_back_unlocked object table (l ∷ ls) unlocked = absurd (cc)
put_back_unlocked object [] [] unlocked = refl
put_back_unlocked object (e ∷ es) [] unlocked =
    let rest = put_back_unlocked object es [] unlocked in
    elim (is_at (nat_cmp object) e.0) as (λ b. is_at (nat_cmp object) e.0 ≡ b → remove_entry (is_at (nat_cmp object)) (cond b ((e.0, []) ∷ es) (e ∷ set_value (is_at (nat_cmp object)) es [])) ≡ cond b es (e ∷ remove_entry (is_at (nat_cmp object)) es)) [
      | true ↦ λ is. rw is refl
      | false ↦ λ is. rw is (ap (λ (t : Table). e ∷ t) rest)
    ] refl

-- the locks of an object that were changed in place
pub written : (object : ℕ) (f : List Lock → List Lock) (table changed : Table) (old new : List Lock) → Some old ≡ lookup (is_at (nat_cmp object)) table → IsStrictlySortedBy nat_cmp (keys_of table) → changed ≡ set_value (is_at (nat_cmp object)) table new → new ≡ f old → is_locked new ≡ true → changed ≡ with_locks table object (f (locks_of table object))
written object f table changed old new found sorted set same locked =
    set ∙ put_back_locked object table old new (sym found) sorted locked
    ∙ ap (λ (ls : List Lock). with_locks table object ls) (same ∙ ap (λ (o : Option (List Lock)). f (unwrap_or o [])) found)

-- and that are none any more
pub emptied : (object : ℕ) (f : List Lock → List Lock) (table changed : Table) (old new : List Lock) → Some old ≡ lookup (is_at (nat_cmp object)) table → changed ≡ remove_entry (is_at (nat_cmp object)) (set_value (is_at (nat_cmp object)) table new) → new ≡ f old → is_locked new ≡ false → changed ≡ with_locks table object (f (locks_of table object))
emptied object f table changed old new found set same unlocked =
    set ∙ put_back_unlocked object table new unlocked
    ∙ ap (λ (ls : List Lock). with_locks table object ls) (same ∙ ap (λ (o : Option (List Lock)). f (unwrap_or o [])) found)

pub unchanged : (object : ℕ) (table changed : Table) (old new : List Lock) → Some old ≡ lookup (is_at (nat_cmp object)) table → changed ≡ set_value (is_at (nat_cmp object)) table new → new ≡ old → changed ≡ table
unchanged object table changed old new found set same =
    set ∙ ap (λ (ls : List Lock). set_value (is_at (nat_cmp object)) table ls) same ∙ set_value_same (is_at (nat_cmp object)) table old (sym found)

pub locked_with : (l : Lock) (ls : List Lock) → is_locked (with_lock l ls) ≡ true
locked_with l [] = refl
locked_with l (x ∷ ls) = elim (comes_later l x) as (λ b. is_locked (cond b (l ∷ x ∷ ls) (x ∷ with_lock l ls)) ≡ true) [ true ↦ refl | false ↦ refl ]

-- a closure that writes g of each value and keeps what passes a test, and stays as it was
pub kept_pairs : {F K X : Type 0} (T : F → K → X → Bool → X → F → Type 0) (g : X → X) (p : X → Bool) (f : F) → ((k : K) (v : X) (b : Bool) (w : X) (f' : F) → T f k v b w f' → (b ≡ p (g v)) × (w ≡ g v) × (f' ≡ f)) → (es kept : List (K × X)) → RetainsPairs T f es kept → kept ≡ filter (λ e. p e.1) (map (λ e. (e.0, g e.1)) es)
kept_pairs T g p f told [] kept h = h
kept_pairs T g p f told (e ∷ es) kept (b, w, f', rest, t, more, is) =
    let said = told e.0 e.1 b w f' t in
    let others = kept_pairs T g p f told es rest (subst (λ f. RetainsPairs T f es rest) said.2 more) in
    rw (is, said.0, said.1, others) refl
