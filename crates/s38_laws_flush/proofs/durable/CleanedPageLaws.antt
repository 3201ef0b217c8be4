-- What a content has under each key once its orphan pages are removed.
use Rattle.std.proofs.Common.{◌≡◌, ◌∙◌, ℕ, ◌==◌, ◌-◌, Bool, true, false, cond, not, List, [], ◌∷◌, map, filter, Option, Some, None, refl, sym, ap, arith}
use Rattle.std.proofs.lemmas.Bool.Decides.{nat_tests}
use Rattle.std.specs.FinMap.{entries, find, get, get-entries, get-remove}
use Rattle.std.specs.List.{list_any}
use Rattle.std.specs.Ordering.{eq_by_cmp, is_eq}
use Rattle.std.specs.Prelude.{◌||◌}
use Rattle.std.specs.declared.cmp.Ordering.TheVariants.{Equal, Greater, Less}
use Rattle.std.specs.declared.cmp.Ordering.{Ordering}
use Rattle.s38_base.specs.declared.page.Change.{Change}
use Rattle.s38_base.specs.declared.page.Key.{Key}
use Rattle.s38_base.specs.declared.page.Page.{Page}
use Rattle.s38_page_diff.specs.Differences.{wanted_at}
use Rattle.s38_restart.specs.catalog.Groups.{groups, is_stray, part_taken, parts_of_number, removals}
use Rattle.s38_image.specs.Faults.{Group}
use Rattle.s38_restart.specs.Parts.{all_parts, part_of}
use Rattle.s38_restart.specs.Removing.{AreRemovals}
use Rattle.s38_vault.proofs.KeyedLaws.{key_cmp-IsAntisymmetric}
use Rattle.s38_vault.specs.Content.{Content, changed, with_value}
use Rattle.s38_vault.specs.Keys.{key_cmp, key_cmp_total}
use Rattle.s38_laws_flush.specs.durable.Beginning.{cleaned}

equal_order : (r : Ordering) → is_eq r ≡ true → r ≡ Equal
equal_order Less e = absurd (cc)
equal_order Equal e = refl
equal_order Greater e = absurd (cc)

pub same_key : (a b : Key) → eq_by_cmp key_cmp a b ≡ true → a ≡ b
same_key a b e = key_cmp-IsAntisymmetric a b (equal_order _ e)

pub number_same : (a b : ℕ) → (a == b) ≡ true → a ≡ b
number_same a b h = grind (arith, nat_tests)

other_key : (a b : Key) → (b.object == a.object) ≡ false → eq_by_cmp key_cmp a b ≡ false
other_key a b off = by (eq_by_cmp key_cmp a b) refl
  where
    itself : (n : ℕ) → (n == n) ≡ true
    itself n = grind (arith, nat_tests)

    by : (c : Bool) → eq_by_cmp key_cmp a b ≡ c → c ≡ false
    by true is = absurd (let e : true ≡ false = sym (itself a.object) ∙ ap (λ (k : Key). k.object == a.object) (same_key a b is) ∙ off in cc)
    by false is = refl

-- a part is looked for among those of its number
pub own_parts : (n : ℕ) (key : Key) (cs : List Change) → key.object ≡ n → wanted_at (parts_of_number n cs) key ≡ wanted_at cs key
own_parts n key [] own = refl
own_parts n key (c ∷ cs) own = by (c.key.object == n) refl (own_parts n key cs own)
  where
    by : (b : Bool) → (c.key.object == n) ≡ b → wanted_at (parts_of_number n cs) key ≡ wanted_at cs key → wanted_at (cond b (c ∷ parts_of_number n cs) (parts_of_number n cs)) key ≡ wanted_at (c ∷ cs) key
    by true is rest = ap (λ (x : Option Page). cond (eq_by_cmp key_cmp key c.key) c.page x) rest
    by false is rest = rest ∙ sym (ap (λ b. cond b c.page (wanted_at cs key)) (other_key key c.key (ap (λ (k : ℕ). c.key.object == k) own ∙ is)))

-- all parts have the pages of the content
listed : (key : Key) (es : List (Key × Page)) → wanted_at (map part_of es) key ≡ find key_cmp key es
listed key [] = refl
listed key (e ∷ es) = ap (λ (x : Option Page). cond (eq_by_cmp key_cmp key e.0) (Some e.1) x) (listed key es)

pub pages_of : (m : Content) (key : Key) → wanted_at (all_parts m) key ≡ get m key
pages_of m key = listed key (entries m) ∙ sym (get-entries m key)

abbrev stays : List Change → Key → Bool
stays cs q = not (list_any (λ c. eq_by_cmp key_cmp q c.key) cs)

merged : (a b : Bool) (x : Option Page) → cond (not b) (cond a None x) None ≡ cond (not (a || b)) x None
merged true true x = refl
merged true false x = refl
merged false true x = refl
merged false false x = refl

gone_value : (m : Content) (k : Key) (page : Option Page) (q : Key) → page ≡ None → get (with_value m k page) q ≡ cond (eq_by_cmp key_cmp q k) None (get m q)
gone_value m k None q e = get-remove key_cmp_total m k q
gone_value m k (Some p) q e = absurd (cc)

get_kept : (m : Content) (cs : List Change) → AreRemovals cs → (q : Key) → get (changed m cs) q ≡ cond (stays cs q) (get m q) None
get_kept m [] h q = refl
get_kept m (c ∷ cs) h q =
    get_kept (with_value m c.key c.page) cs h.1 q
    ∙ ap (λ (o : Option Page). cond (stays cs q) o None) (gone_value m c.key c.page q h.0)
    ∙ merged (eq_by_cmp key_cmp q c.key) (list_any (λ d. eq_by_cmp key_cmp q d.key) cs) (get m q)

taken_away : (test : Change → Bool) (xs : List Change) → AreRemovals (map part_taken (filter test xs))
taken_away test [] = tt
taken_away test (x ∷ xs) = elim (test x) as (λ b. AreRemovals (map part_taken (cond b (x ∷ filter test xs) (filter test xs)))) [ true ↦ (refl, taken_away test xs) | false ↦ taken_away test xs ]

-- a part without a page, under a key
abbrev pub at_key : Key → Change
at_key key = record { key = key; page = None }

module _ (gs : List Group) (q : Key) where
  abbrev gone : List Change → Bool
  gone xs = list_any (λ c. eq_by_cmp key_cmp q c.key) (map part_taken (filter (is_stray gs) xs))

  -- what belongs to something stays
  not_gone : (xs : List Change) → is_stray gs (at_key q) ≡ false → gone xs ≡ false
  not_gone [] stray = refl
  not_gone (x ∷ xs) stray = by (is_stray gs x) refl (not_gone xs stray)
    where
      here : is_stray gs x ≡ true → (b : Bool) → eq_by_cmp key_cmp q x.key ≡ b → b ≡ false
      here own true is = absurd (let e : true ≡ false = sym own ∙ ap (λ (k : Key). is_stray gs (at_key k)) (sym (same_key q x.key is)) ∙ stray in cc)
      here own false is = refl

      by : (b : Bool) → is_stray gs x ≡ b → gone xs ≡ false → list_any (λ c. eq_by_cmp key_cmp q c.key) (map part_taken (cond b (x ∷ filter (is_stray gs) xs) (filter (is_stray gs) xs))) ≡ false
      by true own rest = ap (λ b. b || gone xs) (here own (eq_by_cmp key_cmp q x.key) refl) ∙ rest
      by false own rest = rest

  -- an orphan page that is there is removed
  is_gone : (es : List (Key × Page)) (p : Page) → is_stray gs (at_key q) ≡ true → find key_cmp q es ≡ Some p → gone (map part_of es) ≡ true
  is_gone [] p stray found = cc
  is_gone (e ∷ es) p stray found = by (is_gone es p stray) (eq_by_cmp key_cmp q e.0) refl found
    where
      later : (b c : Bool) → c ≡ true → (b || c) ≡ true
      later true c h = refl
      later false c h = h

      passed : (b : Bool) → gone (map part_of es) ≡ true → list_any (λ c. eq_by_cmp key_cmp q c.key) (map part_taken (cond b (part_of e ∷ filter (is_stray gs) (map part_of es)) (filter (is_stray gs) (map part_of es)))) ≡ true
      passed true rest = later (eq_by_cmp key_cmp q e.0) (gone (map part_of es)) rest
      passed false rest = rest

      own : eq_by_cmp key_cmp q e.0 ≡ true → is_stray gs (part_of e) ≡ true
      own is = ap (λ (k : Key). is_stray gs (at_key k)) (sym (same_key q e.0 is)) ∙ stray

      by : (find key_cmp q es ≡ Some p → gone (map part_of es) ≡ true) → (b : Bool) → eq_by_cmp key_cmp q e.0 ≡ b → cond b (Some e.1) (find key_cmp q es) ≡ Some p → gone (map part_of (e ∷ es)) ≡ true
      by rest true is found = ap (λ b. list_any (λ c. eq_by_cmp key_cmp q c.key) (map part_taken (cond b (part_of e ∷ filter (is_stray gs) (map part_of es)) (filter (is_stray gs) (map part_of es))))) (own is) ∙ ap (λ b. b || gone (map part_of es)) is
      by rest false is found = passed (is_stray gs (part_of e)) (rest found)

-- a content that was cleaned has all pages but the orphan pages
pub cleaned_page : (m : Content) (q : Key) → get (cleaned m) q ≡ cond (is_stray (groups (all_parts m)) (at_key q)) None (get m q)
cleaned_page m q =
    get_kept m (removals (all_parts m)) (taken_away (is_stray gs) (all_parts m)) q ∙ by (is_stray gs (at_key q)) refl
  where
    gs : List Group
    gs = groups (all_parts m)

    away : is_stray gs (at_key q) ≡ true → (x : Option Page) → get m q ≡ x → cond (stays (removals (all_parts m)) q) x None ≡ None
    away stray None is = by (stays (removals (all_parts m)) q)
      where
        by : (b : Bool) → ◌≡◌ {A = Option Page} (cond b None None) None
        by true = refl
        by false = refl
    away stray (Some p) is = ap (λ b. cond (not b) (Some p) None) (is_gone gs q (entries m) p stray (sym (get-entries m q) ∙ is))

    by : (b : Bool) → is_stray gs (at_key q) ≡ b → cond (stays (removals (all_parts m)) q) (get m q) None ≡ cond b None (get m q)
    by true stray = away stray (get m q) refl
    by false stray = ap (λ b. cond (not b) (get m q) None) (not_gone gs q (all_parts m) stray)
