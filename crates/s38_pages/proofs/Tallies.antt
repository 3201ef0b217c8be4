-- Changes one by one: which keys they bring and take, and how many marks and freed homes that makes.
use Rattle.std.proofs.Common.{◌≡◌, ◌&&◌, ℕ, zero, suc, ◌+◌, ◌<◌, ◌≤◌, Bool, true, false, not, cond, slice_set, List, [], ◌∷◌, ◌++◌, length, get_or, take, Option, Some, None, refl, sym, ◌∙◌, ap, subst, arith, inl, inr, ⊎_elim}
use Rattle.std.specs.Prelude.{is_none, is_some}
use Rattle.std.proofs.Math.ListN.{length-set}
use Rattle.std.proofs.lemmas.List.Sums.{sum_by_push, sum_by_more_le}
use Rattle.std.specs.FinMap.{contains_key, get, get-insert, get-remove, insert, remove, same_map}
use Rattle.std.specs.List.{AllByRecursion}
use Rattle.std.specs.Option.{option_map}
use Rattle.std.specs.Ordering.{eq_by_cmp, is_eq}
use Rattle.std.proofs.lemmas.Bool.{true≢false}
use Rattle.s38_base.specs.declared.page.Change.{Change}
use Rattle.s38_base.specs.declared.page.Key.{Key}
use Rattle.s38_base.specs.declared.page.Page.{Page}
use Rattle.s38_vault.specs.Content.{AreRising}
use Rattle.s38_vault.specs.Directory.{Keys, changed_keys, gone_keys, is_gone, is_new, keys_of, new_keys, with_key}
use Rattle.s38_vault.specs.Keys.{IsBefore, key_cmp, key_cmp_total}
use Rattle.s38_vault.proofs.DirectoryLaws.{contains-keys_of, contains-other, get-keys_of, rising_all, rising_rest}
use Rattle.s38_redo_log.specs.declared.layout.Slot.{Slot}
use Rattle.s38_pages.specs.Index.{HasKey, Homes, Tallied, count_freed, frees, marked, unmarked, with_home}
use Rattle.s38_pages.proofs.Contents.{apart_keys, key_cases, key_itself, key_same}
use Rattle.s38_pages.proofs.Marking.{unmarked_set}

-- ---- keys of a map

either : {V W : Type 0} (b : Bool) (x y : Option V) (f : V → W) → option_map f (cond b x y) ≡ cond b (option_map f x) (option_map f y)
either true x y f = refl
either false x y f = refl

pub keys_of-insert : (m : Homes) (k : Key) (h : ℕ) → keys_of (insert m k h) ≡ insert (keys_of m) k tt
keys_of-insert m k h =
    same_map key_cmp_total key_same _ _ (λ q.
    get-keys_of (insert m k h) q ∙ ap (option_map (λ _. tt)) (get-insert key_cmp_total m k h q)
    ∙ either (eq_by_cmp key_cmp q k) (Some h) (get m q) (λ _. tt)
    ∙ ap (cond (eq_by_cmp key_cmp q k) (Some tt)) (sym (get-keys_of m q))
    ∙ sym (get-insert key_cmp_total (keys_of m) k tt q))

pub keys_of-remove : (m : Homes) (k : Key) → keys_of (remove m k) ≡ remove (keys_of m) k
keys_of-remove m k =
    same_map key_cmp_total key_same _ _ (λ q.
    get-keys_of (remove m k) q ∙ ap (option_map (λ _. tt)) (get-remove key_cmp_total m k q)
    ∙ either (eq_by_cmp key_cmp q k) None (get m q) (λ _. tt)
    ∙ ap (cond (eq_by_cmp key_cmp q k) None) (sym (get-keys_of m q))
    ∙ sym (get-remove key_cmp_total (keys_of m) k q))

-- the index as a function
pub get_inserted : (m : Homes) (k : Key) (h : ℕ) → get (insert m k h) ≡ with_home (get m) k (Some h)
get_inserted m k h = λ i q. get-insert key_cmp_total m k h q i

pub get_removed : (m : Homes) (k : Key) → get (remove m k) ≡ with_home (get m) k None
get_removed m k = λ i q. get-remove key_cmp_total m k q i

-- ---- a key that no change names

changed_keys-push : (ks : Keys) (cs : List Change) (c : Change) → changed_keys ks (cs ++ c ∷ []) ≡ with_key (changed_keys ks cs) c.key c.page
changed_keys-push ks [] c = refl
changed_keys-push ks (x ∷ cs) c = changed_keys-push (with_key ks x.key x.page) cs c

contains_rest : (ks : Keys) (cs : List Change) (q : Key) → (HasKey cs q → ⊥) → contains_key (changed_keys ks cs) q ≡ contains_key ks q
contains_rest ks [] q none = refl
contains_rest ks (c ∷ cs) q none = contains_rest (with_key ks c.key c.page) cs q (λ h. none (inr h)) ∙ contains-other ks c.key q c.page (apart_keys q c.key (λ e. none (inl e)))

pub new_by_home : (m : Homes) (c : Change) (b : Bool) → is_some c.page ≡ true → b ≡ contains_key m c.key → not b ≡ is_new (keys_of m) c
new_by_home m c b some there = λ i. sym some i && not ((there ∙ sym (contains-keys_of m c.key)) i)

-- ---- rising keys

pub all_at : (P : Change → Type 0) (cs : List Change) (k : ℕ) (d : Change) → AllByRecursion P cs → k < length cs → P (get_or cs k d)
all_at P [] k d all le = absurd (omega arith)
all_at P (c ∷ cs) zero d all le = all.0
all_at P (c ∷ cs) (suc k) d all le = all_at P cs k d all.1 (omega arith)

not_before : (q : Key) → IsBefore q q → ⊥
not_before q e = true≢false (sym (key_itself q) ∙ ap is_eq e)

-- no key occurs twice
pub rising_apart : (cs : List Change) → AreRising cs → (k : ℕ) (d : Change) → k < length cs → HasKey (take k cs) (get_or cs k d).key → ⊥
rising_apart [] r k d le has = absurd (omega arith)
rising_apart (c ∷ cs) r zero d le has = has
rising_apart (c ∷ cs) r (suc k) d le (inl e) =
    not_before c.key (subst (λ (x : Key). IsBefore c.key x) e (all_at (λ x. IsBefore c.key x.key) cs k d (rising_all c cs r) (omega arith)))
rising_apart (c ∷ cs) r (suc k) d le (inr has) = rising_apart cs (rising_rest c cs r) k d (omega arith) has

-- ---- one change more

pub freed-push : (es : List Slot) (e : Slot) → count_freed (es ++ e ∷ []) ≡ count_freed es + cond (frees e) 1 0
freed-push [] e = omega arith
freed-push (x ∷ es) e = let rest = freed-push es e in omega arith

pub tallied_start : (old : Homes) (was : List Bool) → Tallied old old was was [] []
tallied_start old was = record { keys = refl; marks = omega arith; freed = refl; size = refl }

module _ (old now : Homes) (was used : List Bool) (es : List Slot) (cs : List Change) (t : Tallied old now was used es cs) (c : Change) (new : HasKey cs c.key → ⊥) where
  -- a key of the change was there before all changes where it is there now
  pub was_there : contains_key (keys_of old) c.key ≡ is_some (get now c.key)
  was_there = sym (contains_rest (keys_of old) cs c.key new) ∙ sym (ap (λ (ks : Keys). contains_key ks c.key) t.keys) ∙ contains-keys_of now c.key

  new_count : (b : Bool) → is_new (keys_of old) c ≡ b → new_keys (keys_of old) (cs ++ c ∷ []) ≡ new_keys (keys_of old) cs + cond b 1 0
  new_count b e = sum_by_push (λ d. cond (is_new (keys_of old) d) 1 0) cs c ∙ ap (λ v. new_keys (keys_of old) cs + cond v 1 0) e

  gone_count : (b : Bool) → is_gone (keys_of old) c ≡ b → gone_keys (keys_of old) (cs ++ c ∷ []) ≡ gone_keys (keys_of old) cs + cond b 1 0
  gone_count b e = sum_by_push (λ d. cond (is_gone (keys_of old) d) 1 0) cs c ∙ ap (λ v. gone_keys (keys_of old) cs + cond v 1 0) e

  keys_now : (o : Option Page) (later : Homes) → c.page ≡ o → keys_of later ≡ with_key (keys_of now) c.key o → keys_of later ≡ changed_keys (keys_of old) (cs ++ c ∷ [])
  keys_now o later is e =
      e ∙ ap (with_key (keys_of now) c.key) (sym is) ∙ ap (λ (ks : Keys). with_key ks c.key c.page) t.keys ∙ sym (changed_keys-push (keys_of old) cs c)

  pub tallied_over : (page : Page) (h : ℕ) (slot : Slot) → c.page ≡ Some page → get now c.key ≡ Some h → frees slot ≡ false → Tallied old now was used (es ++ slot ∷ []) (cs ++ c ∷ [])
  tallied_over page h slot is at kept =
      let there : contains_key (keys_of old) c.key ≡ true = was_there ∙ ap is_some at in
      let count = new_count false (λ i. is_some (is i) && not (there i)) in
      let gone = gone_count false (ap (λ o. is_none o && contains_key (keys_of old) c.key) is) in
      let slots = freed-push es slot in
      let none : ◌≡◌ {A = ℕ} (cond (frees slot) 1 0) 0 = ap (λ b. cond {A = ℕ} b 1 0) kept in
      record {
        keys = keys_now (Some page) now is (sym (insert_there (keys_of now) c.key (contains-keys_of now c.key ∙ ap is_some at)));
        marks = omega (arith, t.marks, count);
        freed = omega (arith, t.freed, gone, slots, none);
        size = t.size;
      }
    where
      unit_same : (x : Option (Unit {0})) → is_some x ≡ true → Some tt ≡ x
      unit_same None e = absurd (true≢false (sym e))
      unit_same (Some u) e = refl

      insert_there : (ks : Keys) (k : Key) → contains_key ks k ≡ true → insert ks k tt ≡ ks
      insert_there ks k e = same_map key_cmp_total key_same _ _ (λ q. get-insert key_cmp_total ks k tt q ∙ ⊎_elim
          (λ is_k. ap (λ v. cond v (Some tt) (get ks q)) (ap (λ x. eq_by_cmp key_cmp x k) is_k ∙ key_itself k) ∙ unit_same (get ks k) e ∙ ap (get ks) (sym is_k))
          (λ other. ap (λ v. cond v (Some tt) (get ks q)) other)
          (key_cases q k))

  pub tallied_new : (page : Page) (h : ℕ) (slot : Slot) → c.page ≡ Some page → get now c.key ≡ None → h < length used → marked used h ≡ false → frees slot ≡ false
      → Tallied old (insert now c.key h) was (slice_set used h true) (es ++ slot ∷ []) (cs ++ c ∷ [])
  tallied_new page h slot is at le free kept =
      let absent : contains_key (keys_of old) c.key ≡ false = was_there ∙ ap is_some at in
      let count = new_count true (λ i. is_some (is i) && not (absent i)) in
      let gone = gone_count false (ap (λ o. is_none o && contains_key (keys_of old) c.key) is) in
      let slots = freed-push es slot in
      let none : ◌≡◌ {A = ℕ} (cond (frees slot) 1 0) 0 = ap (λ b. cond {A = ℕ} b 1 0) kept in
      let one = unmarked_set used h le free in
      record {
        keys = keys_now (Some page) (insert now c.key h) is (keys_of-insert now c.key h);
        marks = omega (arith, t.marks, count, one);
        freed = omega (arith, t.freed, gone, slots, none);
        size = length-set used h true ∙ t.size;
      }

  pub tallied_gone : (h : ℕ) (slot : Slot) → c.page ≡ None → get now c.key ≡ Some h → frees slot ≡ true → Tallied old (remove now c.key) was used (es ++ slot ∷ []) (cs ++ c ∷ [])
  tallied_gone h slot is at free =
      let there : contains_key (keys_of old) c.key ≡ true = was_there ∙ ap is_some at in
      let count = new_count false (ap (λ o. is_some o && not (contains_key (keys_of old) c.key)) is) in
      let gone = gone_count true (λ i. is_none (is i) && there i) in
      let slots = freed-push es slot in
      let one : ◌≡◌ {A = ℕ} (cond (frees slot) 1 0) 1 = ap (λ b. cond {A = ℕ} b 1 0) free in
      record {
        keys = keys_now None (remove now c.key) is (keys_of-remove now c.key);
        marks = omega (arith, t.marks, count);
        freed = omega (arith, t.freed, gone, slots, one);
        size = t.size;
      }

  pub tallied_none : c.page ≡ None → get now c.key ≡ None → Tallied old now was used es (cs ++ c ∷ [])
  tallied_none is at =
      let absent : contains_key (keys_of old) c.key ≡ false = was_there ∙ ap is_some at in
      let count = new_count false (ap (λ o. is_some o && not (contains_key (keys_of old) c.key)) is) in
      let gone = gone_count false (λ i. is_none (is i) && absent i) in
      record {
        keys = keys_now None now is (sym (remove_absent (keys_of now) c.key (get-keys_of now c.key ∙ ap (option_map (λ _. tt)) at)));
        marks = omega (arith, t.marks, count);
        freed = omega (arith, t.freed, gone);
        size = t.size;
      }
    where
      remove_absent : (ks : Keys) (k : Key) → get ks k ≡ None → remove ks k ≡ ks
      remove_absent ks k e = same_map key_cmp_total key_same _ _ (λ q. get-remove key_cmp_total ks k q ∙ ⊎_elim
          (λ is_k. ap (λ v. cond v None (get ks q)) (ap (λ x. eq_by_cmp key_cmp x k) is_k ∙ key_itself k) ∙ sym e ∙ ap (get ks) (sym is_k))
          (λ other. ap (λ v. cond v None (get ks q)) other)
          (key_cases q k))

-- there is a free home for each new key
pub room_for : (old : Homes) (now : Homes) (was used : List Bool) (es : List Slot) (cs : List Change) (i : ℕ) (d : Change) → i < length cs → new_keys (keys_of old) cs ≤ unmarked was
    → Tallied old now was used es (take i cs) → is_new (keys_of old) (get_or cs i d) ≡ true → 1 ≤ unmarked used
room_for old now was used es cs i d le room t is =
    let all = sum_by_more_le (λ c. cond (is_new (keys_of old) c) 1 0) cs i d le in
    let one : ◌≡◌ {A = ℕ} (cond (is_new (keys_of old) (get_or cs i d)) 1 0) 1 = ap (λ b. cond {A = ℕ} b 1 0) is in
    omega (arith, t.marks, all, one, room)

pub new_here : (m : Homes) (c : Change) (page : Page) → c.page ≡ Some page → get m c.key ≡ None → is_new (keys_of m) c ≡ true
new_here m c page is at = λ i. is_some (is i) && not ((contains-keys_of m c.key ∙ ap is_some at) i)

-- a key is new to the index now where it was new at first
pub new_same : (old now : Homes) (was used : List Bool) (es : List Slot) (cs : List Change) → Tallied old now was used es cs → (c : Change) → (HasKey cs c.key → ⊥) → is_new (keys_of now) c ≡ is_new (keys_of old) c
new_same old now was used es cs t c new = ap (λ b. is_some c.page && not b) (contains-keys_of now c.key ∙ sym (was_there old now was used es cs t c new))
