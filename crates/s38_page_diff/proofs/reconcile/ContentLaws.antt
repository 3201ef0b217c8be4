-- What the changes of all numbers make of a content.
use Rattle.std.proofs.Common.{◌≡◌, ◌⊎◌, ◌≢◌, ℕ, zero, suc, ◌<◌, ◌≤◌, ◌^◌, Bool, true, false, cond, List, [], ◌∷◌, ◌++◌, inl, inr, refl, sym, ◌∙◌, ap, subst, arith}
use Rattle.std.proofs.lemmas.Bool.{cases_lt}
use Rattle.std.specs.Prelude.{Option, Some, None, is_some}
use Rattle.std.specs.FinMap.{contains_key, empty, get, get-empty, get-insert, get-remove, same_map}
use Rattle.std.specs.List.{AllByRecursion}
use Rattle.std.specs.Ordering.{eq_by_cmp}
use Rattle.std.specs.declared.cmp.Ordering.TheVariants.{Less}
use Rattle.s38_base.specs.declared.page.Change.{Change}
use Rattle.s38_base.specs.declared.page.Key.{Key}
use Rattle.s38_base.specs.declared.page.Page.{Page}
use Rattle.s38_page_diff.specs.Differences.{IsWanted, differences, is_part_in_range, wanted_at}
use Rattle.s38_page_diff.proofs.LookLaws.{differences_made}
use Rattle.s38_page_diff.specs.declared.range.PartRange.{PartRange}
use Rattle.s38_page_diff.proofs.WalkLaws.{not_below, one_key}
use Rattle.s38_page_diff.proofs.WantedLaws.{in_range, inside}
use Rattle.s38_page_diff.specs.reconcile.Replacing.{changes_at, changes_to, each_to, range_of}
use Rattle.s38_page_diff.specs.reconcile.Walking.{AreSoFar, IsKnown}
use Rattle.s38_page_diff.proofs.reconcile.PieceLaws.{each_next, each_none}
use Rattle.s38_page_diff.proofs.reconcile.SoFarLaws.{all_of, of_number}
use Rattle.s38_vault.specs.Content.{AreRising, Content, changed, with_value}
use Rattle.s38_vault.specs.Directory.{Keys}
use Rattle.s38_vault.specs.Keys.{key_cmp, key_cmp_total}
use Rattle.s38_vault.proofs.DirectoryLaws.{contains-keys_of, rising_all, rising_rest}
use Rattle.s38_vault.proofs.KeyedLaws.{key_cmp-IsAntisymmetric}

-- ---- a key after changes

unfoldable pub changed_at : List Change → Key → Option Page → Option Page
changed_at [] q old = old
changed_at (c ∷ cs) q old = changed_at cs q (cond (eq_by_cmp key_cmp q c.key) c.page old)

get-with_value : (m : Content) (k : Key) (o : Option Page) (q : Key) → get (with_value m k o) q ≡ cond (eq_by_cmp key_cmp q k) o (get m q)
get-with_value m k (Some page) q = get-insert key_cmp_total m k page q
get-with_value m k None q = get-remove key_cmp_total m k q

pub get-changed : (m : Content) (cs : List Change) (q : Key) → get (changed m cs) q ≡ changed_at cs q (get m q)
unfolding changed_at
get-changed m [] q = refl
get-changed m (c ∷ cs) q = get-changed (with_value m c.key c.page) cs q ∙ ap (changed_at cs q) (get-with_value m c.key c.page q)

pub changed_at-append : (cs ds : List Change) (q : Key) (old : Option Page) → changed_at (cs ++ ds) q old ≡ changed_at ds q (changed_at cs q old)
unfolding changed_at
changed_at-append [] ds q old = refl
changed_at-append (c ∷ cs) ds q old = changed_at-append cs ds q (cond (eq_by_cmp key_cmp q c.key) c.page old)

changed_at-others : (cs : List Change) (q : Key) (old : Option Page) → AllByRecursion (λ c. eq_by_cmp key_cmp q c.key ≡ false) cs → changed_at cs q old ≡ old
unfolding changed_at
changed_at-others [] q old h = refl
changed_at-others (c ∷ cs) q old h = ap (λ b. changed_at cs q (cond b c.page old)) h.0 ∙ changed_at-others cs q old h.1

pub differences_at : (m : Content) (range : PartRange) (wanted : List Change) (q : Key) → changed_at (differences (get m) range wanted) q (get m q) ≡ cond (is_part_in_range range q) (wanted_at wanted q) (get m q)
differences_at m range wanted q = sym (get-changed m (differences (get m) range wanted) q) ∙ differences_made m range wanted q

-- ---- a key, where each number has changes of its own

is_false : (b : Bool) → (b ≡ true → ⊥) → b ≡ false
is_false true h = absurd (h refl)
is_false false h = refl

-- changes of another number
pub other_number : (cs : List Change) (k : ℕ) (q : Key) (old : Option Page) → AllByRecursion (λ c. c.key.object ≡ k) cs → q.object ≢ k → changed_at cs q old ≡ old
other_number cs k q old own off =
    changed_at-others cs q old (all_of _ _ cs (λ c of_it. is_false _ (λ same. off (ap (λ (x : Key). x.object) (one_key q c.key same) ∙ of_it))) own)

-- no number up to this one is the key's
pub made_other : (f : ℕ → List Change) (q : Key) (old : Option Page) (n : ℕ) → ((k : ℕ) → 1 ≤ k → k ≤ n → AllByRecursion (λ c. c.key.object ≡ k) (f k)) → ((k : ℕ) → 1 ≤ k → k ≤ n → q.object ≢ k) → changed_at (each_to f n) q old ≡ old
unfolding changed_at
made_other f q old zero own off = ap (λ (cs : List Change). changed_at cs q old) (each_none f)
made_other f q old (suc n) own off =
    ap (λ (cs : List Change). changed_at cs q old) (each_next f n) ∙ changed_at-append (each_to f n) (f (suc n)) q old
    ∙ other_number (f (suc n)) (suc n) q _ (own (suc n) (omega arith) (omega arith)) (off (suc n) (omega arith) (omega arith))
    ∙ made_other f q old n (λ k low high. own k low (omega arith)) (λ k low high. off k low (omega arith))

-- the changes of the key's number alone count
pub made_here : (f : ℕ → List Change) (q : Key) (old : Option Page) (n : ℕ) → ((k : ℕ) → 1 ≤ k → k ≤ n → AllByRecursion (λ c. c.key.object ≡ k) (f k)) → 1 ≤ q.object → q.object ≤ n → changed_at (each_to f n) q old ≡ changed_at (f q.object) q old
made_here f q old zero own low high = absurd (omega arith)
made_here f q old (suc n) own low high =
    ap (λ (cs : List Change). changed_at cs q old) (each_next f n) ∙ changed_at-append (each_to f n) (f (suc n)) q old
    ∙ elim (cases_lt n q.object) [
      | inl above ↦
          let same : suc n ≡ q.object = omega arith in
          ap (changed_at (f (suc n)) q) (made_other f q old n (λ k from upto. own k from (omega arith)) (λ k from upto is. absurd (omega (arith, is, same, upto))))
          ∙ ap (λ (k : ℕ). changed_at (f k) q old) same
      | inr below ↦
          other_number (f (suc n)) (suc n) q _ (own (suc n) (omega arith) (omega arith)) (λ same. absurd (omega (arith, same, below)))
          ∙ made_here f q old n (λ k from upto. own k from (omega arith)) low below
    ]

-- ---- wanted parts that are put where nothing was

wanted_alone : (ws : List Change) (q : Key) → AreRising ws → changed_at ws q None ≡ wanted_at ws q
unfolding changed_at
wanted_alone [] q rising = refl
wanted_alone (w ∷ ws) q rising = by (wanted_alone ws q (rising_rest w ws rising)) (eq_by_cmp key_cmp q w.key) refl
  where
    by : changed_at ws q None ≡ wanted_at ws q → (b : Bool) → eq_by_cmp key_cmp q w.key ≡ b → changed_at ws q (cond b w.page None) ≡ cond b w.page (wanted_at ws q)
    by rest true same =
        changed_at-others ws q w.page
        (all_of _ _ ws (λ c before. not_below q c.key (subst (λ (k : Key). key_cmp k c.key ≡ Less) (sym (one_key q w.key same)) before)) (rising_all w ws rising))
    by rest false other = rest

-- a key of no part of 32 bits is not wanted
out_unwanted : (n : ℕ) (ws : List Change) (q : Key) → AllByRecursion (λ want. is_part_in_range (range_of n) want.key ≡ true) ws → (q.part < 2 ^ 32 → ⊥) → wanted_at ws q ≡ None
out_unwanted n [] q h out = refl
out_unwanted n (w ∷ ws) q h out =
    let here = inside (range_of n) w.key h.0 in
    let off : eq_by_cmp key_cmp q w.key ≡ false = is_false _ (λ same. out (subst (λ (k : Key). k.part < 2 ^ 32) (sym (one_key q w.key same)) here.before)) in
    ap (λ b. cond b w.page (wanted_at ws q)) off ∙ out_unwanted n ws q h.1 out

wanted_own : (n : ℕ) (ws : List Change) → IsWanted (range_of n) ws → AllByRecursion (λ c. c.key.object ≡ n) ws
wanted_own n ws is = all_of _ _ ws (λ c h. (inside (range_of n) c.key h).object) is.in_range

-- ---- the content

none_of : (page : Option Page) → is_some page ≡ false → page ≡ None
none_of None e = refl
none_of (Some page) e = absurd (cc)

module _ (m : Content) (wants : ℕ → List Change) (last : ℕ) where
  abbrev Wanted : Type 0
  Wanted = (n : ℕ) → 1 ≤ n → n ≤ last → IsWanted (range_of n) (wants n)

  abbrev Known : Type 0
  Known = (key : Key) → is_some (get m key) ≡ true → IsKnown last key

  unknown : Known → (q : Key) → (IsKnown last q → ⊥) → get m q ≡ None
  unknown known q not = none_of (get m q) (is_false _ (λ there. not (known q there)))

  at_number : Wanted → Known → (q : Key) → 1 ≤ q.object → q.object ≤ last → cond (is_part_in_range (range_of q.object) q) (wanted_at (wants q.object) q) (get m q) ≡ wanted_at (wants q.object) q
  at_number wanted known q low high = by (is_part_in_range (range_of q.object) q) refl
    where
      by : (b : Bool) → is_part_in_range (range_of q.object) q ≡ b → cond b (wanted_at (wants q.object) q) (get m q) ≡ wanted_at (wants q.object) q
      by true within = refl
      by false out =
          let far : q.part < 2 ^ 32 → ⊥ = λ near. no_yes (in_range (range_of q.object) q refl (omega arith) near) out in
          unknown known q (λ is. far is.part) ∙ sym (out_unwanted q.object (wants q.object) q (wanted q.object low high).in_range far)
        where
          no_yes : {b : Bool} → b ≡ true → b ≡ false → ⊥
          no_yes t f = cc

  same_at : Wanted → Known → (q : Key) → changed_at (changes_to (get m) wants last) q (get m q) ≡ changed_at (each_to wants last) q None
  same_at wanted known q = elim (where_is q.object last) [
    | inl within ↦
        made_here (changes_at (get m) wants) q (get m q) last (λ k low high. of_number (get m) k (wants k)) within.0 within.1
        ∙ differences_at m (range_of q.object) (wants q.object) q ∙ at_number wanted known q within.0 within.1
        ∙ sym (wanted_alone (wants q.object) q (wanted q.object within.0 within.1).rising)
        ∙ sym (made_here wants q None last (λ k low high. wanted_own k (wants k) (wanted k low high)) within.0 within.1)
    | inr off ↦
        made_other (changes_at (get m) wants) q (get m q) last (λ k low high. of_number (get m) k (wants k)) (λ k low high same. off (omega (arith, same, low)) (omega (arith, same, high)))
        ∙ unknown known q (λ is. off is.from is.upto)
        ∙ sym (made_other wants q None last (λ k low high. wanted_own k (wants k) (wanted k low high)) (λ k low high same. off (omega (arith, same, low)) (omega (arith, same, high))))
  ]
    where
      where_is : (o last : ℕ) → ((1 ≤ o) × (o ≤ last)) ⊎ (1 ≤ o → o ≤ last → ⊥)
      where_is o last = elim (cases_lt o 1) [
        | inl none ↦ inr (λ low high. absurd (omega (arith, low, none)))
        | inr low ↦ elim (cases_lt last o) [ inl beyond ↦ inr (λ from high. absurd (omega (arith, high, beyond))) | inr high ↦ inl (low, high) ]
      ]

  -- all changes make the content that has the wanted parts, and no others
  pub wanted_content : Wanted → Known → changed m (changes_to (get m) wants last) ≡ changed empty (each_to wants last)
  wanted_content wanted known =
      same_map key_cmp_total key_cmp-IsAntisymmetric _ _ (λ q.
      get-changed m (changes_to (get m) wants last) q ∙ same_at wanted known q
      ∙ sym (get-changed empty (each_to wants last) q ∙ ap (changed_at (each_to wants last) q) (get-empty key_cmp q)))

-- the same where the changes are known
pub content_made : (keys : Keys) (holds : Content → Type 0) (wants : ℕ → List Change) (last : ℕ) (changes : List Change) (m : Content) → AreSoFar keys holds wants last changes → holds m
    → ((key : Key) → contains_key keys key ≡ true → IsKnown last key) → changed m changes ≡ changed empty (each_to wants last)
content_made keys holds wants last changes m known h all =
    ap (changed m) (known.told m h)
    ∙ wanted_content m wants last known.wanted (λ key there. all key (ap (λ (ks : Keys). contains_key ks key) (known.keys_held m h) ∙ contains-keys_of m key ∙ there))
