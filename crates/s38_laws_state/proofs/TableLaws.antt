-- What holds of all locks of a table, where those of one object change, and where a process gives up its own.
use Rattle.std.proofs.Common.{◌==◌, ◌∷◌, ◌≡◌, Bool, List, [], arith, cond, false, not, refl, subst, true, ℕ}
use Rattle.std.proofs.lemmas.Bool.{cond_both}
use Rattle.std.proofs.lemmas.Bool.Decides.{nat_tests}
use Rattle.std.proofs.lemmas.List.Elements.{All-cons, All-filter, All-head, All-map, All-nil, All-tail, All-weaker}
use Rattle.std.proofs.lemmas.Map.Entries.{All-lookup}
use Rattle.std.proofs.lemmas.Map.Keys.{sorted_head, sorted_tail}
use Rattle.std.specs.BTreeMap.{insert_entry, is_at}
use Rattle.std.specs.List.{AllByRecursion}
use Rattle.std.specs.List.Sorted.{IsStrictlySortedBy}
use Rattle.std.specs.Map.{keys_of, lookup, remove_entry}
use Rattle.std.specs.Option.{unwrap_or}
use Rattle.std.specs.Ordering.{match_ordering, nat_cmp}
use Rattle.std.specs.Prelude.{All, IfSome, None, Option, Some, map}
use Rattle.std.specs.declared.cmp.Ordering.TheVariants.{Equal, Greater, Less}
use Rattle.s38_locks.specs.Locks.{Lock, comes_later, is_locked, is_same, with_lock, without_lock, without_process}
use Rattle.s38_locks.specs.Table.{Table, locks_of, released, with_locks}

-- ---- the locks of one object

module _ (P : Lock → Type 0) where
  pub with_held : (lock : Lock) (locks : List Lock) → P lock → All P locks → All P (with_lock lock locks)
  with_held lock [] new all = All-cons P lock [] new all
  with_held lock (x ∷ xs) new all = cond_both (comes_later lock x) (lock ∷ x ∷ xs) (x ∷ with_lock lock xs) (λ ls. All P ls)
      (λ first. All-cons P lock (x ∷ xs) new all)
      (λ later. All-cons P x (with_lock lock xs) (All-head P x xs all) (with_held lock xs new (All-tail P x xs all)))

  pub without_held : (lock : Lock) (locks : List Lock) → All P locks → All P (without_lock lock locks)
  without_held lock [] all = all
  without_held lock (x ∷ xs) all = cond_both (is_same lock x) xs (x ∷ without_lock lock xs) (λ ls. All P ls)
      (λ same. All-tail P x xs all)
      (λ other. All-cons P x (without_lock lock xs) (All-head P x xs all) (without_held lock xs (All-tail P x xs all)))

  -- ---- those of all objects

  abbrev pub OfEntry : ℕ × List Lock → Type 0
  OfEntry e = All P e.1

  pub found_held : (table : Table) (object : ℕ) → All OfEntry table → All P (locks_of table object)
  found_held table object all = by (lookup (is_at (nat_cmp object)) table) (All-lookup (All P) (is_at (nat_cmp object)) table all)
    where
      by : (r : Option (List Lock)) → IfSome r (All P) → All P (unwrap_or r [])
      by None h = All-nil P
      by (Some locks) h = h

-- ---- the locks of all objects

module _ (R : ℕ × List Lock → Type 0) where
  put_entry : (object : ℕ) (locks : List Lock) (table : Table) → R (object, locks) → All R table → All R (insert_entry nat_cmp table object locks)
  put_entry object locks [] new all = All-cons R (object, locks) [] new all
  put_entry object locks (e ∷ es) new all =
      let rest = put_entry object locks es new (All-tail R e es all) in
      elim (nat_cmp object e.0) as (λ o. nat_cmp object e.0 ≡ o → All R (match_ordering o ((object, locks) ∷ e ∷ es) ((e.0, locks) ∷ es) (e ∷ insert_entry nat_cmp es object locks))) [
        | Less ↦ λ is. All-cons R (object, locks) (e ∷ es) new all
        | Equal ↦ λ is. All-cons R (e.0, locks) es (subst (λ (n : ℕ). R (n, locks)) (equal_same object e.0 is) new) (All-tail R e es all)
        | Greater ↦ λ is. All-cons R e (insert_entry nat_cmp es object locks) (All-head R e es all) rest
      ] refl
    where
      equal_same : (a b : ℕ) → nat_cmp a b ≡ Equal → a ≡ b
      equal_same a b is = grind (arith, nat_tests)

  taken_entry : (object : ℕ) (table : Table) → All R table → All R (remove_entry (is_at (nat_cmp object)) table)
  taken_entry object [] all = all
  taken_entry object (e ∷ es) all = cond_both (is_at (nat_cmp object) e.0) es (e ∷ remove_entry (is_at (nat_cmp object)) es) (λ t. All R t)
      (λ own. All-tail R e es all)
      (λ other. All-cons R e (remove_entry (is_at (nat_cmp object)) es) (All-head R e es all) (taken_entry object es (All-tail R e es all)))

  pub with_entries : (object : ℕ) (locks : List Lock) (table : Table) → (is_locked locks ≡ true → R (object, locks)) → All R table → All R (with_locks table object locks)
  with_entries object [] table new all = taken_entry object table all
  with_entries object (lock ∷ locks) table new all = put_entry object (lock ∷ locks) table (new refl) all

-- objects rise by number
abbrev pub AreOrdered : Table → Type 0
AreOrdered table = IsStrictlySortedBy nat_cmp (keys_of table)

abbrev LessThan : ℕ → Table → Type 0
LessThan k table = AllByRecursion (λ q. nat_cmp k q ≡ Less) (keys_of table)

ordered_first : (e : ℕ × List Lock) (es : Table) → LessThan e.0 es → AreOrdered es → AreOrdered (e ∷ es)
unfolding IsStrictlySortedBy
ordered_first e es less ordered = (less, ordered)

pub ordered_none : AreOrdered []
unfolding IsStrictlySortedBy
ordered_none = tt

less_put : (k object : ℕ) (locks : List Lock) (table : Table) → nat_cmp k object ≡ Less → LessThan k table → LessThan k (insert_entry nat_cmp table object locks)
less_put k object locks [] low less = (low, tt)
less_put k object locks (e ∷ es) low less =
    let rest = less_put k object locks es low less.1 in
    elim (nat_cmp object e.0) as (λ o. LessThan k (match_ordering o ((object, locks) ∷ e ∷ es) ((e.0, locks) ∷ es) (e ∷ insert_entry nat_cmp es object locks))) [
      | Less ↦ (low, less)
      | Equal ↦ (less.0, less.1)
      | Greater ↦ (less.0, rest)
    ]

less_then : (a b c : ℕ) → nat_cmp a b ≡ Less → nat_cmp b c ≡ Less → nat_cmp a c ≡ Less
less_then a b c p q = grind (arith, nat_tests)

less_lower : (a b : ℕ) (table : Table) → nat_cmp a b ≡ Less → LessThan b table → LessThan a table
less_lower a b [] low less = tt
less_lower a b (e ∷ es) low less = (less_then a b e.0 low less.0, less_lower a b es low less.1)

ordered_put : (object : ℕ) (locks : List Lock) (table : Table) → AreOrdered table → AreOrdered (insert_entry nat_cmp table object locks)
ordered_put object locks [] ordered = ordered_first (object, locks) [] tt ordered
ordered_put object locks (e ∷ es) ordered =
    let less = sorted_head nat_cmp e.0 (keys_of es) ordered in
    let later = sorted_tail nat_cmp e.0 (keys_of es) ordered in
    let rest = ordered_put object locks es later in
    elim (nat_cmp object e.0) as (λ o. nat_cmp object e.0 ≡ o → AreOrdered (match_ordering o ((object, locks) ∷ e ∷ es) ((e.0, locks) ∷ es) (e ∷ insert_entry nat_cmp es object locks))) [
      | Less ↦ λ is. ordered_first (object, locks) (e ∷ es) (is, less_lower object e.0 es is less) ordered
      | Equal ↦ λ is. ordered_first (e.0, locks) es less later
      | Greater ↦ λ is. ordered_first e (insert_entry nat_cmp es object locks) (less_put e.0 object locks es (back object e.0 is) less) rest
    ] refl
  where
    back : (a b : ℕ) → nat_cmp a b ≡ Greater → nat_cmp b a ≡ Less
    back a b is = grind (arith, nat_tests)

less_taken : (k object : ℕ) (table : Table) → LessThan k table → LessThan k (remove_entry (is_at (nat_cmp object)) table)
less_taken k object [] less = tt
less_taken k object (e ∷ es) less = cond_both (is_at (nat_cmp object) e.0) es (e ∷ remove_entry (is_at (nat_cmp object)) es) (λ t. LessThan k t) (λ own. less.1) (λ other. (less.0, less_taken k object es less.1))

ordered_taken : (object : ℕ) (table : Table) → AreOrdered table → AreOrdered (remove_entry (is_at (nat_cmp object)) table)
ordered_taken object [] ordered = ordered
ordered_taken object (e ∷ es) ordered =
    let less = sorted_head nat_cmp e.0 (keys_of es) ordered in
    let later = sorted_tail nat_cmp e.0 (keys_of es) ordered in
    cond_both (is_at (nat_cmp object) e.0) es (e ∷ remove_entry (is_at (nat_cmp object)) es) AreOrdered (λ own. later)
    (λ other. ordered_first e (remove_entry (is_at (nat_cmp object)) es) (less_taken e.0 object es less) (ordered_taken object es later))

pub ordered_with : (object : ℕ) (locks : List Lock) (table : Table) → AreOrdered table → AreOrdered (with_locks table object locks)
ordered_with object [] table ordered = ordered_taken object table ordered
ordered_with object (lock ∷ locks) table ordered = ordered_put object (lock ∷ locks) table ordered

-- ---- a process gives up its locks

less_released : (k p : ℕ) (table : Table) → LessThan k table → LessThan k (released p table)
less_released k p [] less = tt
less_released k p (e ∷ es) less = cond_both (is_locked (without_process p e.1)) ((e.0, without_process p e.1) ∷ released p es) (released p es) (λ t. LessThan k t)
    (λ some. (less.0, less_released k p es less.1)) (λ none. less_released k p es less.1)

pub ordered_released : (p : ℕ) (table : Table) → AreOrdered table → AreOrdered (released p table)
ordered_released p [] ordered = ordered
ordered_released p (e ∷ es) ordered =
    let less = sorted_head nat_cmp e.0 (keys_of es) ordered in
    let rest = ordered_released p es (sorted_tail nat_cmp e.0 (keys_of es) ordered) in
    cond_both (is_locked (without_process p e.1)) ((e.0, without_process p e.1) ∷ released p es) (released p es) AreOrdered
    (λ some. ordered_first (e.0, without_process p e.1) (released p es) (less_released e.0 p es less) rest) (λ none. rest)

pub released_entries : (R : ℕ × List Lock → Type 0) (p : ℕ) → ((e : ℕ × List Lock) → R e → is_locked (without_process p e.1) ≡ true → R (e.0, without_process p e.1)) → (table : Table) → All R table → All R (released p table)
released_entries R p next [] all = all
released_entries R p next (e ∷ es) all =
    let rest = released_entries R p next es (All-tail R e es all) in
    cond_both (is_locked (without_process p e.1)) ((e.0, without_process p e.1) ∷ released p es) (released p es) (λ t. All R t)
    (λ some. All-cons R (e.0, without_process p e.1) (released p es) (next e (All-head R e es all) some) rest) (λ none. rest)

-- a lock is of another process
abbrev pub IsOfOther : ℕ → Lock → Type 0
IsOfOther p lock = (lock.0 == p) ≡ false

-- where a process gives up its locks, those that stay are of others
others_held : (P : Lock → Type 0) (p : ℕ) (locks : List Lock) → All P locks → All (λ lock. P lock × IsOfOther p lock) (without_process p locks)
others_held P p [] all = All-nil (λ lock. P lock × IsOfOther p lock)
others_held P p (x ∷ xs) all = by (x.0 == p) refl (others_held P p xs (All-tail P x xs all))
  where
    by : (b : Bool) → (x.0 == p) ≡ b → All (λ lock. P lock × IsOfOther p lock) (without_process p xs) → All (λ lock. P lock × IsOfOther p lock) (cond (not b) (x ∷ without_process p xs) (without_process p xs))
    by true is rest = rest
    by false is rest = All-cons (λ lock. P lock × IsOfOther p lock) x (without_process p xs) (All-head P x xs all, is) rest

pub released_held : (P Q : Lock → Type 0) (p : ℕ) → ((lock : Lock) → P lock → IsOfOther p lock → Q lock) → (table : Table) → All (OfEntry P) table → All (OfEntry Q) (released p table)
released_held P Q p next table all =
    All-filter (λ e. is_locked e.1) (OfEntry Q) (map (λ e. (e.0, without_process p e.1)) table)
    (All-map (OfEntry Q) (λ e. (e.0, without_process p e.1)) table (All-weaker (OfEntry P) (λ e. All Q (without_process p e.1)) (λ e held. All-weaker (λ lock. P lock × IsOfOther p lock) Q (λ lock both. next lock both.0 both.1) (without_process p e.1) (others_held P p e.1 held)) table all))
