-- What the changes up to a number make, and which changes are left where some of them were made.
use Rattle.std.proofs.Common.{◌≡◌, ◌⊎◌, ℕ, zero, suc, ◌+◌, ◌<◌, ◌≤◌, ◌^◌, Bool, true, false, cond, List, [], ◌∷◌, ◌++◌, inl, inr, refl, sym, ◌∙◌, ap, subst, arith, append-nil, append_assoc, length}
use Rattle.std.proofs.lemmas.Bool.{cases_lt}
use Rattle.std.proofs.lemmas.List.{append_cancel_left}
use Rattle.std.specs.Prelude.{Option, is_some}
use Rattle.std.specs.FinMap.{get}
use Rattle.std.specs.List.{AllByRecursion}
use Rattle.std.specs.Ordering.{eq_by_cmp}
use Rattle.s38_base.specs.declared.page.Change.{Change}
use Rattle.s38_base.specs.declared.page.Key.{Key}
use Rattle.s38_base.specs.declared.page.Page.{Page}
use Rattle.s38_page_diff.specs.Differences.{HavePages, IsWanted, differences, is_part_in_range, wanted_at}
use Rattle.s38_page_diff.proofs.DifferenceLaws.{same_differences}
use Rattle.s38_page_diff.proofs.LookLaws.{differences_new, each_difference, nothing_differs}
use Rattle.s38_page_diff.proofs.WalkLaws.{key_at, one_key}
use Rattle.s38_page_diff.proofs.WantedLaws.{in_range, inside}
use Rattle.s38_page_diff.specs.reconcile.Replacing.{changes_at, changes_to, range_of}
use Rattle.s38_page_diff.specs.reconcile.Walking.{AreFineTo, AreSoFar, IsKeyInRange}
use Rattle.s38_page_diff.proofs.reconcile.ContentLaws.{changed_at, differences_at, get-changed, made_here, made_other}
use Rattle.s38_page_diff.proofs.reconcile.PieceLaws.{each_next, each_none}
use Rattle.s38_page_diff.proofs.reconcile.SoFarLaws.{all_of, all_on, new-append, of_number}
use Rattle.s38_vault.specs.Content.{AreRising, Content, changed}
use Rattle.s38_vault.specs.Directory.{Keys, is_new, keys_of, new_keys}
use Rattle.s38_vault.specs.Keys.{key_cmp}
use Rattle.s38_vault.proofs.DirectoryLaws.{contains-keys_of}

-- each number up to one has its wanted parts
abbrev pub HasWanted : Content → (ℕ → List Change) → ℕ → Type 0
HasWanted m wants done = (key : Key) → 1 ≤ key.object → key.object ≤ done → key.part < 2 ^ 32 → get m key ≡ wanted_at (wants key.object) key

-- ---- what the changes up to a number make

module _ (m : Content) (wants : ℕ → List Change) (done : ℕ) where
  pub made_in : HasWanted (changed m (changes_to (get m) wants done)) wants done
  made_in key from upto part =
      get-changed m (changes_to (get m) wants done) key
      ∙ made_here (changes_at (get m) wants) key (get m key) done (λ k low high. of_number (get m) k (wants k)) from upto
      ∙ differences_at m (range_of key.object) (wants key.object) key
      ∙ ap (λ b. cond b (wanted_at (wants key.object) key) (get m key)) (in_range (range_of key.object) key refl (omega arith) part)

  pub made_out : (key : Key) → done < key.object → get (changed m (changes_to (get m) wants done)) key ≡ get m key
  made_out key above =
      get-changed m (changes_to (get m) wants done) key
      ∙ made_other (changes_at (get m) wants) key (get m key) done (λ k low high. of_number (get m) k (wants k)) (λ k low high same. absurd (omega (arith, above, high, same)))

-- ---- what is left to be changed

pub same_at : (m n : Content) (wants : ℕ → List Change) (k : ℕ) → ((key : Key) → key.object ≡ k → key.part < 2 ^ 32 → get n key ≡ get m key) → changes_at (get m) wants k ≡ changes_at (get n) wants k
same_at m n wants k same = same_differences (get m) (get n) (wants k) (wants k) k (2 ^ 32) 0 (λ p low high. sym (same (key_at k p) refl (omega (arith, high)))) (λ p low high. refl)

pub none_at : (n : Content) (wants : ℕ → List Change) (done k : ℕ) → HasWanted n wants done → 1 ≤ k → k ≤ done → changes_at (get n) wants k ≡ []
none_at n wants done k has from upto = nothing_differs (get n) (range_of k) (wants k) by
  where
    by : (key : Key) → is_part_in_range (range_of k) key ≡ true → get n key ≡ wanted_at (wants k) key
    by key within =
        let here = inside (range_of k) key within in
        has key (omega (arith, here.object, from)) (omega (arith, here.object, upto)) here.before ∙ ap (λ (i : ℕ). wanted_at (wants i) key) here.object

-- where the wanted parts are there, nothing
pub nothing_left : (n : Content) (wants : ℕ → List Change) (done : ℕ) → HasWanted n wants done → changes_to (get n) wants done ≡ []
nothing_left n wants done has = by done (omega arith)
  where
    by : (k : ℕ) → k ≤ done → changes_to (get n) wants k ≡ []
    by zero low = each_none (changes_at (get n) wants)
    by (suc k) low =
        each_next (changes_at (get n) wants) k ∙ ap (λ (cs : List Change). changes_to (get n) wants k ++ cs) (none_at n wants done (suc k) has (omega arith) low)
        ∙ append-nil (changes_to (get n) wants k) ∙ by k (omega arith)

-- where the changes up to a number were made, those after it
pub rest_left : (m n : Content) (wants : ℕ → List Change) (done upto : ℕ) → done ≤ upto → HasWanted n wants done → ((key : Key) → done < key.object → key.part < 2 ^ 32 → get n key ≡ get m key)
    → changes_to (get m) wants upto ≡ changes_to (get m) wants done ++ changes_to (get n) wants upto
rest_left m n wants done upto low has same = by upto low
  where
    at : (k : ℕ) → done ≤ k → changes_to (get m) wants k ≡ changes_to (get m) wants done ++ changes_to (get n) wants k → changes_to (get m) wants (suc k) ≡ changes_to (get m) wants done ++ changes_to (get n) wants (suc k)
    at k above before =
        each_next (changes_at (get m) wants) k
        ∙ (λ i. before i ++ same_at m n wants (suc k) (λ key is part. same key (omega (arith, is, above)) part) i)
        ∙ append_assoc (changes_to (get m) wants done) (changes_to (get n) wants k) (changes_at (get n) wants (suc k))
        ∙ ap (λ (cs : List Change). changes_to (get m) wants done ++ cs) (sym (each_next (changes_at (get n) wants) k))

    begun : changes_to (get m) wants done ≡ changes_to (get m) wants done ++ changes_to (get n) wants done
    begun = sym (append-nil (changes_to (get m) wants done)) ∙ ap (λ (cs : List Change). changes_to (get m) wants done ++ cs) (sym (nothing_left n wants done has))

    by : (k : ℕ) → done ≤ k → changes_to (get m) wants k ≡ changes_to (get m) wants done ++ changes_to (get n) wants k
    by zero above =
        let same : done ≡ zero = omega (arith, above) in
        subst (λ (i : ℕ). changes_to (get m) wants i ≡ changes_to (get m) wants done ++ changes_to (get n) wants i) same begun
    by (suc k) above = elim (cases_lt done (suc k)) [
      | inl below ↦ at k (omega (arith, below)) (by k (omega (arith, below)))
      | inr beyond ↦
          let same : done ≡ suc k = omega (arith, above, beyond) in
          subst (λ (i : ℕ). changes_to (get m) wants i ≡ changes_to (get m) wants done ++ changes_to (get n) wants i) same begun
    ]

-- ---- lists of changes

pub rising_after : (front rest : List Change) → AreRising (front ++ rest) → AreRising rest
rising_after [] rest h = h
rising_after (c ∷ []) [] h = tt
rising_after (c ∷ []) (d ∷ rest) h = h.1
rising_after (c ∷ d ∷ front) rest h = rising_after (d ∷ front) rest h.1

pub rising_before : (front rest : List Change) → AreRising (front ++ rest) → AreRising front
rising_before [] rest h = tt
rising_before (c ∷ []) rest h = tt
rising_before (c ∷ d ∷ front) rest h = (h.0, rising_before (d ∷ front) rest h.1)

pub all_after : (P : Change → Type 0) (front rest : List Change) → AllByRecursion P (front ++ rest) → AllByRecursion P rest
all_after P [] rest h = h
all_after P (c ∷ front) rest h = all_after P front rest h.1

pub all_before : (P : Change → Type 0) (front rest : List Change) → AllByRecursion P (front ++ rest) → AllByRecursion P front
all_before P [] rest h = tt
all_before P (c ∷ front) rest h = (h.0, all_before P front rest h.1)

pub changed-append : (m : Content) (front rest : List Change) → changed m (front ++ rest) ≡ changed (changed m front) rest
changed-append m [] rest = refl
changed-append m (c ∷ front) rest = changed-append (changed m (c ∷ [])) front rest

-- ---- changes that wait after such as were put

-- those up to one number were put, and those up to another wait
pub so_far_put : (keys more : Keys) (holds now : Content → Type 0) (wants : ℕ → List Change) (done upto : ℕ) (front rest : List Change) → done ≤ upto
    → ((n : Content) → now n → more ≡ keys_of n) → ((n : Content) → now n → (m : Content) × (holds m × (n ≡ changed m front)))
    → AreSoFar keys holds wants done front → AreSoFar keys holds wants upto (front ++ rest) → AreSoFar more now wants upto rest
so_far_put keys more holds now wants done upto front rest low held made was all = record {
  keys_held = held;
  wanted = all.wanted;
  told = told;
  rising = rising_after front rest all.rising;
  objects = all_after (λ c. 1 ≤ c.key.object) front rest all.objects;
  upto = all_after (λ c. c.key.object ≤ upto) front rest all.upto;
}
  where
    told_by : (m : Content) → holds m → rest ≡ changes_to (get (changed m front)) wants upto
    told_by m h =
        let n = changed m (changes_to (get m) wants done) in
        let left = rest_left m n wants done upto low (made_in m wants done) (λ key above part. made_out m wants done key above) in
        let is = was.told m h in
        append_cancel_left (changes_to (get m) wants done) rest (changes_to (get n) wants upto) (ap (λ (cs : List Change). cs ++ rest) (sym is) ∙ all.told m h ∙ left)
        ∙ ap (λ (cs : List Change). changes_to (get (changed m cs)) wants upto) (sym is)

    told : (n : Content) → now n → rest ≡ changes_to (get n) wants upto
    told n h =
        let was_held = made n h in
        told_by was_held.0 was_held.1.0 ∙ ap (λ (x : Content). changes_to (get x) wants upto) (sym was_held.1.1)

-- all were put
pub so_far_done : (keys more : Keys) (holds now : Content → Type 0) (wants : ℕ → List Change) (done : ℕ) (changes : List Change)
    → ((n : Content) → now n → more ≡ keys_of n) → ((n : Content) → now n → HasWanted n wants done) → AreSoFar keys holds wants done changes → AreSoFar more now wants done []
so_far_done keys more holds now wants done changes held has was = record {
  keys_held = held;
  wanted = was.wanted;
  told = λ n h. sym (nothing_left n wants done (has n h));
  rising = tt;
  objects = tt;
  upto = tt;
}

-- ---- keys after a put

pub number_fine : (pages : Key → Option Page) (n : ℕ) (wanted : List Change) → 1 ≤ n → AllByRecursion (λ c. IsKeyInRange c.key) (differences pages (range_of n) wanted)
number_fine pages n wanted from =
    all_of _ _ (differences pages (range_of n) wanted) (λ c h. by c (inside (range_of n) c.key h.in_range).object (inside (range_of n) c.key h.in_range).before) (each_difference pages (range_of n) wanted)
  where
    by : (c : Change) → c.key.object ≡ n → c.key.part < 2 ^ 32 → IsKeyInRange c.key
    by c is part = record { from = omega (arith, is, from); part = part }

pub changes_fine : (pages : Key → Option Page) (wants : ℕ → List Change) (n : ℕ) → AllByRecursion (λ c. IsKeyInRange c.key) (changes_to pages wants n)
changes_fine pages wants zero = subst (λ (cs : List Change). AllByRecursion (λ c. IsKeyInRange c.key) cs) (sym (each_none (changes_at pages wants))) tt
changes_fine pages wants (suc n) =
    subst (λ (cs : List Change). AllByRecursion (λ c. IsKeyInRange c.key) cs) (sym (each_next (changes_at pages wants) n))
    (all_on (λ c. IsKeyInRange c.key) (changes_to pages wants n) (changes_at pages wants (suc n)) (changes_fine pages wants n) (number_fine pages (suc n) (wants (suc n)) (omega arith)))

there_by : (cs : List Change) (q : Key) (old : Option Page) → AllByRecursion (λ c. IsKeyInRange c.key) cs → is_some (changed_at cs q old) ≡ true → (is_some old ≡ true) ⊎ IsKeyInRange q
unfolding changed_at
there_by [] q old fine there = inl there
there_by (c ∷ cs) q old fine there = by (eq_by_cmp key_cmp q c.key) refl there (there_by cs q old fine.1)
  where
    by : (b : Bool) → eq_by_cmp key_cmp q c.key ≡ b → is_some (changed_at cs q (cond b c.page old)) ≡ true → (is_some (changed_at cs q old) ≡ true → (is_some old ≡ true) ⊎ IsKeyInRange q) → (is_some old ≡ true) ⊎ IsKeyInRange q
    by true same there rest = inr (subst IsKeyInRange (sym (one_key q c.key same)) fine.0)
    by false other there rest = rest there

pub fine_put : (m : Content) (changes : List Change) (n : ℕ) → AllByRecursion (λ c. IsKeyInRange c.key) changes → AreFineTo (keys_of m) n → AreFineTo (keys_of (changed m changes)) n
fine_put m changes n fine was key there before =
    elim (there_by changes key (get m key) fine (ap (λ (p : Option Page). is_some p) (sym (get-changed m changes key)) ∙ sym (contains-keys_of (changed m changes) key) ∙ there)) [
      | inl held ↦ was key (contains-keys_of m key ∙ held) before
      | inr is ↦ is
    ]

-- ---- new keys

-- of numbers of which none but the last brings a key
pub new_last : (keys : Keys) (pages : Key → Option Page) (wants : ℕ → List Change) (n : ℕ) → 1 ≤ n → HavePages keys pages → IsWanted (range_of n) (wants n)
    → ((k : ℕ) → 1 ≤ k → k < n → (changes_at pages wants k ≡ []) ⊎ (wants k ≡ [])) → new_keys keys (changes_to pages wants n) ≡ new_keys keys (wants n)
new_last keys pages wants zero from have is none = absurd (omega (arith, from))
new_last keys pages wants (suc n) from have is none =
    let first = ap (new_keys keys) (each_next (changes_at pages wants) n) ∙ new-append keys (changes_to pages wants n) (changes_at pages wants (suc n)) in
    omega (arith, first, no_new n (omega arith), differences_new keys pages (range_of (suc n)) (wants (suc n)) have is)
  where
    none_new : (k : ℕ) → (changes_at pages wants k ≡ []) ⊎ (wants k ≡ []) → new_keys keys (changes_at pages wants k) ≡ 0
    none_new k (inl same) = ap (new_keys keys) same
    none_new k (inr unwanted) =
        ap (λ (ws : List Change). new_keys keys (differences pages (range_of k) ws)) unwanted
        ∙ differences_new keys pages (range_of k) [] have (record { rising = tt; in_range = tt })

    no_new : (k : ℕ) → k ≤ n → new_keys keys (changes_to pages wants k) ≡ 0
    no_new zero low = ap (new_keys keys) (each_none (changes_at pages wants))
    no_new (suc k) low =
        let first = ap (new_keys keys) (each_next (changes_at pages wants) k) ∙ new-append keys (changes_to pages wants k) (changes_at pages wants (suc k)) in
        omega (arith, first, no_new k (omega (arith, low)), none_new (suc k) (none (suc k) (omega arith) (omega (arith, low))))

-- changes bring no more keys than there are changes
pub new_few : (keys : Keys) (changes : List Change) → new_keys keys changes ≤ length changes
new_few keys [] = omega arith
new_few keys (c ∷ cs) = omega (arith, new-append keys (c ∷ []) cs, one (is_new keys c), new_few keys cs)
  where
    one : (b : Bool) → 0 + cond b 1 0 ≤ 1
    one true = omega arith
    one false = omega arith
