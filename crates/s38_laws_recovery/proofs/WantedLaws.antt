-- Two lists of pages in the order of their keys are the same where they have the same page of each key.
use Rattle.std.proofs.Common.{◌≡◌, ◌∙◌, Bool, true, false, cond, List, [], ◌∷◌, Option, None, filter, map, refl, sym, ap, subst}
use Rattle.std.proofs.lemmas.Map.Keys.{sorted_head, sorted_tail}
use Rattle.std.specs.List.{AllByRecursion}
use Rattle.std.specs.List.Sorted.{IsStrictlySortedBy}
use Rattle.std.specs.Ordering.{eq_by_cmp, ordering_reverse}
use Rattle.std.specs.Prelude.{is_some}
use Rattle.std.specs.declared.cmp.Ordering.TheVariants.{Equal, Greater, Less}
use Rattle.std.specs.declared.cmp.Ordering.{Ordering}
use Rattle.s38_base.specs.declared.page.Change.{Change}
use Rattle.s38_base.specs.declared.page.Key.{Key}
use Rattle.s38_base.specs.declared.page.Page.{Page}
use Rattle.s38_page_diff.proofs.WalkLaws.{key_itself, not_below, one_key}
use Rattle.s38_page_diff.specs.Differences.{is_part_in_range, wanted_at}
use Rattle.s38_page_diff.specs.declared.range.PartRange.{PartRange}
use Rattle.s38_restart.proofs.catalog.RunLaws.{AreInOrder, key_of}
use Rattle.s38_vault.proofs.KeyedLaws.{key_cmp-IsAntisymmetric}
use Rattle.s38_vault.specs.Keys.{key_cmp, key_cmp_total}

-- a page of a range
pub record IsPageIn (range : PartRange) (c : Change) : Type 0 where
  pub in_range : is_part_in_range range c.key ≡ true
  pub there : is_some c.page ≡ true

abbrev Behind : Key → List Change → Type 0
Behind k xs = AllByRecursion (λ q. key_cmp k q ≡ Less) (map key_of xs)

pub none_at : (k : Key) (xs : List Change) → Behind k xs → wanted_at xs k ≡ None
none_at k [] above = refl
none_at k (x ∷ xs) above = rw (not_below k x.key above.0) (none_at k xs above.1)

first_at : (x : Change) (xs : List Change) → wanted_at (x ∷ xs) x.key ≡ x.page
first_at x xs = ap (λ b. cond b x.page (wanted_at xs x.key)) (key_itself x.key)

behind_both : (k q : Key) (xs : List Change) → key_cmp k q ≡ Less → Behind q xs → Behind k xs
behind_both k q [] less h = tt
behind_both k q (x ∷ xs) less h = (key_cmp_total.trans k q x.key less h.0, behind_both k q xs less h.1)

no_page : (page : Option Page) → is_some page ≡ true → page ≡ None → ⊥
no_page page some none = let e : false ≡ true = sym (ap is_some none) ∙ some in cc

-- a key that comes before a list has no page there, so it leads no list with the same pages
not_less : (x y : Change) (xs ys : List Change) → AreInOrder (y ∷ ys) → is_some x.page ≡ true → wanted_at (x ∷ xs) x.key ≡ wanted_at (y ∷ ys) x.key → key_cmp x.key y.key ≡ Less → ⊥
not_less x y xs ys order there same less =
    let above : Behind x.key (y ∷ ys) = (less, behind_both x.key y.key ys less (sorted_head key_cmp y.key (map key_of ys) order)) in
    no_page x.page there (sym (first_at x xs) ∙ same ∙ none_at x.key (y ∷ ys) above)

module _ (range : PartRange) where
  abbrev SamePages : List Change → List Change → Type 0
  SamePages xs ys = (q : Key) → is_part_in_range range q ≡ true → wanted_at xs q ≡ wanted_at ys q

  -- after a first part that both have
  rest_same : (x y : Change) (xs ys : List Change) → AreInOrder (x ∷ xs) → AreInOrder (y ∷ ys) → x.key ≡ y.key → SamePages (x ∷ xs) (y ∷ ys) → SamePages xs ys
  rest_same x y xs ys ox oy key same q own = by (eq_by_cmp key_cmp q x.key) refl
    where
      by : (b : Bool) → eq_by_cmp key_cmp q x.key ≡ b → wanted_at xs q ≡ wanted_at ys q
      by true is =
          let one : x.key ≡ q = sym (one_key q x.key is) in
          let left : wanted_at xs x.key ≡ None = none_at x.key xs (sorted_head key_cmp x.key (map key_of xs) ox) in
          let right : wanted_at ys y.key ≡ None = none_at y.key ys (sorted_head key_cmp y.key (map key_of ys) oy) in
          subst (λ (k : Key). wanted_at xs k ≡ wanted_at ys k) one (left ∙ sym (ap (wanted_at ys) key ∙ right))
      by false is =
          sym (ap (λ b. cond b x.page (wanted_at xs q)) is) ∙ same q own
          ∙ ap (λ b. cond b y.page (wanted_at ys q)) (ap (eq_by_cmp key_cmp q) (sym key) ∙ is)

  same_first : (x y : Change) (xs ys : List Change) → is_part_in_range range x.key ≡ true → x.key ≡ y.key → SamePages (x ∷ xs) (y ∷ ys) → x ≡ y
  same_first x y xs ys own key same =
      let page : x.page ≡ y.page = sym (first_at x xs) ∙ same x.key own ∙ ap (wanted_at (y ∷ ys)) key ∙ first_at y ys in
      λ i. record { key = key i; page = page i }

  pub same_pages : (xs ys : List Change) → AreInOrder xs → AreInOrder ys → AllByRecursion (IsPageIn range) xs → AllByRecursion (IsPageIn range) ys → SamePages xs ys → xs ≡ ys
  same_pages [] [] ox oy px py same = refl
  same_pages [] (y ∷ ys) ox oy px py same = absurd (no_page y.page py.0.there (sym (first_at y ys) ∙ sym (same y.key py.0.in_range)))
  same_pages (x ∷ xs) [] ox oy px py same = absurd (no_page x.page px.0.there (sym (first_at x xs) ∙ same x.key px.0.in_range))
  same_pages (x ∷ xs) (y ∷ ys) ox oy px py same =
      by (same_pages xs ys (sorted_tail key_cmp x.key (map key_of xs) ox) (sorted_tail key_cmp y.key (map key_of ys) oy) px.1 py.1) (key_cmp x.key y.key) refl
    where
      by : (SamePages xs ys → xs ≡ ys) → (r : Ordering) → key_cmp x.key y.key ≡ r → x ∷ xs ≡ y ∷ ys
      by more Less is = absurd (not_less x y xs ys oy px.0.there (same x.key px.0.in_range) is)
      by more Greater is = absurd (not_less y x ys xs ox py.0.there (sym (same y.key py.0.in_range)) (key_cmp_total.antisymm y.key x.key ∙ ap ordering_reverse is))
      by more Equal is =
          let key : x.key ≡ y.key = key_cmp-IsAntisymmetric x.key y.key is in
          let first = same_first x y xs ys px.0.in_range key same in
          let rest = more (rest_same x y xs ys ox oy key same) in
          cc

-- ---- the parts that pass a test

filter_behind : (k : Key) (test : Change → Bool) (xs : List Change) → Behind k xs → Behind k (filter test xs)
filter_behind k test [] h = tt
filter_behind k test (x ∷ xs) h =
    let rest = filter_behind k test xs h.1 in
    elim (test x) as (λ b. Behind k (cond b (x ∷ filter test xs) (filter test xs))) [ true ↦ (h.0, rest) | false ↦ rest ]

pub filter_in_order : (test : Change → Bool) (xs : List Change) → AreInOrder xs → AreInOrder (filter test xs)
unfolding IsStrictlySortedBy
filter_in_order test [] h = tt
filter_in_order test (x ∷ xs) h =
    let rest = filter_in_order test xs (sorted_tail key_cmp x.key (map key_of xs) h) in
    let later = filter_behind x.key test xs (sorted_head key_cmp x.key (map key_of xs) h) in
    elim (test x) as (λ b. IsStrictlySortedBy key_cmp (map key_of (cond b (x ∷ filter test xs) (filter test xs)))) [ true ↦ (later, rest) | false ↦ rest ]

pub each_passing : (P Q : Change → Type 0) (test : Change → Bool) (xs : List Change) → ((c : Change) → test c ≡ true → P c → Q c) → AllByRecursion P xs → AllByRecursion Q (filter test xs)
each_passing P Q test [] f h = tt
each_passing P Q test (x ∷ xs) f h =
    let rest = each_passing P Q test xs f h.1 in
    elim (test x) as (λ b. test x ≡ b → AllByRecursion Q (cond b (x ∷ filter test xs) (filter test xs))) [ true ↦ λ is. (f x is h.0, rest) | false ↦ λ is. rest ] refl
