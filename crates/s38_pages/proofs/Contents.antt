-- One change more: what it does to the index, to the slots and to the content.
use Rattle.std.proofs.Common.{◌≡◌, ◌⊎◌, ℕ, true, false, cond, Option, Some, None, refl, sym, ◌∙◌, ap, subst, inl, inr, ⊎_elim}
use Rattle.std.proofs.lemmas.Bool.{true≢false, cases_Bool, cases_eq, both_ways}
use Rattle.std.specs.declared.cmp.Ordering.{Ordering}
use Rattle.std.specs.declared.cmp.Ordering.TheVariants.{Less, Equal, Greater}
use Rattle.std.specs.Ordering.{eq_by_cmp, is_eq, nat_cmp, ordering_then}
use Rattle.std.specs.Cmp.{tied_itself}
use Rattle.std.specs.FinMap.{get, insert, remove, get-insert, get-remove, same_map, IsAntisymmetric, nat_cmp-IsAntisymmetric}
use Rattle.s38_disk.specs.declared.block.Block.{Block}
use Rattle.s38_disk.specs.Blocks.{put}
use Rattle.s38_base.specs.declared.page.Key.{Key}
use Rattle.s38_base.specs.declared.page.Page.{Page}
use Rattle.s38_vault.specs.Content.{Content}
use Rattle.s38_vault.specs.Keys.{key_cmp, key_cmp_total}
use Rattle.s38_redo_log.specs.declared.layout.Layout.{Layout}
use Rattle.s38_redo_log.specs.Coding.{home_is_used, key_in, page_in}
use Rattle.s38_redo_log.specs.Store.{HomesHold, is_home}
use Rattle.s38_pages.specs.Index.{Index, Indexed, page_at, with_home}
use Rattle.s38_redo_log.proofs.LogLemmas.{put_here, put_apart}

-- ---- keys

key_parts : (x y : Key) (a b : Ordering) → nat_cmp x.object y.object ≡ a → nat_cmp x.part y.part ≡ b → ordering_then a b ≡ Equal → x ≡ y
key_parts x y Less b p q e = absurd (cc)
key_parts x y Greater b p q e = absurd (cc)
key_parts x y Equal b p q e =
    let o = nat_cmp-IsAntisymmetric x.object y.object p in
    let n = nat_cmp-IsAntisymmetric x.part y.part (q ∙ e) in
    λ i. record { object = o i; part = n i }

pub key_same : IsAntisymmetric key_cmp
key_same x y e = key_parts x y _ _ refl refl e

is_equal : (r : Ordering) → is_eq r ≡ true → r ≡ Equal
is_equal Less e = absurd (cc)
is_equal Equal e = refl
is_equal Greater e = absurd (cc)

pub key_eq : (q k : Key) → eq_by_cmp key_cmp q k ≡ true → q ≡ k
key_eq q k e = key_same q k (is_equal (key_cmp q k) e)

pub key_itself : (k : Key) → eq_by_cmp key_cmp k k ≡ true
key_itself k = ap is_eq (tied_itself key_cmp_total k)

pub key_cases : (q k : Key) → (q ≡ k) ⊎ (eq_by_cmp key_cmp q k ≡ false)
key_cases q k = ⊎_elim (λ e. inl (key_eq q k e)) (λ e. inr e) (cases_Bool (eq_by_cmp key_cmp q k))

pub apart_keys : (q k : Key) → (q ≡ k → ⊥) → eq_by_cmp key_cmp q k ≡ false
apart_keys q k no_way = ⊎_elim (λ e. absurd (no_way (key_eq q k e))) (λ e. e) (cases_Bool (eq_by_cmp key_cmp q k))

pub with_here : (ix : Index) (k : Key) (h : Option ℕ) (q : Key) → q ≡ k → with_home ix k h q ≡ h
with_here ix k h q e = ap (λ v. cond v h (ix q)) (ap (λ x. eq_by_cmp key_cmp x k) e ∙ key_itself k)

pub with_other : (ix : Index) (k : Key) (h : Option ℕ) (q : Key) → eq_by_cmp key_cmp q k ≡ false → with_home ix k h q ≡ ix q
with_other ix k h q e = ap (λ v. cond v h (ix q)) e

pub some_same : (a b : ℕ) → ◌≡◌ {A = Option ℕ} (Some a) (Some b) → a ≡ b
some_same a b e = cc

pub none_some : (a : ℕ) → ◌≡◌ {A = Option ℕ} None (Some a) → ⊥
none_some a e = cc

-- ---- contents

pub holds_indexed : (lay : Layout) (f : ℕ → Block) (ix : Index) (m : Content) → Indexed lay f ix m → HomesHold lay f m
holds_indexed lay f ix m d = record {
  kept = λ i home used. d.pages (key_in (f i)) ∙ ap (page_at f) (d.whole i home used);
  found = λ k p e. by k p (ix k) refl (sym (d.pages k) ∙ e);
  once = λ i j hi hj ui uj e. some_same i j (sym (d.whole i hi ui) ∙ ap ix e ∙ d.whole j hj uj);
}
  where
    same_page : (a b : Page) → ◌≡◌ {A = Option Page} (Some a) (Some b) → a ≡ b
    same_page a b e = cc

    no_page : (a : Page) → ◌≡◌ {A = Option Page} None (Some a) → ⊥
    no_page a e = cc

    by : (k : Key) (p : Page) (o : Option ℕ) → ix k ≡ o → page_at f o ≡ Some p → (i : ℕ) × (is_home lay i ≡ true) × (home_is_used (f i) ≡ true) × (key_in (f i) ≡ k) × (page_in (f i) ≡ p)
    by k p None is e = absurd (no_page p e)
    by k p (Some h) is e = let s = d.sound k h is in (h, s.0, s.1, s.2, same_page (page_in (f h)) p e)

module _ (lay : Layout) (f : ℕ → Block) (ix : Index) (m : Content) (d : Indexed lay f ix m) (k : Key) (h : ℕ) (b : Block) where
  -- that home holds no other key
  abbrev Alone : Type 0
  Alone = (q : Key) → ix q ≡ Some h → q ≡ k

  block_here : put h b f h ≡ b
  block_here = put_here h b f h refl

  moved : (q : Key) (i : ℕ) → Alone → eq_by_cmp key_cmp q k ≡ false → ix q ≡ Some i → (i ≡ h → ⊥)
  moved q i alone other is e = true≢false (sym (key_itself k) ∙ ap (λ x. eq_by_cmp key_cmp x k) (sym (alone q (is ∙ ap (λ n. Some n) e))) ∙ other)

  pub indexed_page : (p : Page) → is_home lay h ≡ true → Alone → home_is_used b ≡ true → key_in b ≡ k → page_in b ≡ p → ((h2 : ℕ) → ix k ≡ Some h2 → h2 ≡ h) → Indexed lay (put h b f) (with_home ix k (Some h)) (insert m k p)
  indexed_page p home alone used key page mine = record {
    sound = λ q i is. ⊎_elim
        (λ e. let at : i ≡ h = some_same i h (sym is ∙ with_here ix k (Some h) q e) in
        (ap (is_home lay) at ∙ home, ap home_is_used (put_here h b f i at) ∙ used, ap key_in (put_here h b f i at) ∙ key ∙ sym e))
        (λ other. let was = sym (with_other ix k (Some h) q other) ∙ is in
        let there = put_apart h b f i (moved q i alone other was) in
        let s = d.sound q i was in
        (s.0, ap home_is_used there ∙ s.1, ap key_in there ∙ s.2))
        (key_cases q k);
    whole = λ i hi ui. ⊎_elim
        (λ at. with_here ix k (Some h) (key_in (put h b f i)) (ap key_in (put_here h b f i at) ∙ key) ∙ ap (λ n. Some n) (sym at))
        (λ other. let there = put_apart h b f i other in
        let was = d.whole i hi (sym (ap home_is_used there) ∙ ui) in
        with_other ix k (Some h) (key_in (put h b f i)) (apart_keys _ k (λ e. other (mine i (ap ix (sym e ∙ ap key_in there) ∙ was)))) ∙ ap ix (ap key_in there) ∙ was)
        (cases_eq i h);
    pages = λ q. get-insert key_cmp_total m k p q ∙ ⊎_elim
        (λ e. ap (λ v. cond v (Some p) (get m q)) (ap (λ x. eq_by_cmp key_cmp x k) e ∙ key_itself k) ∙ sym (ap (page_at (put h b f)) (with_here ix k (Some h) q e) ∙ ap (λ x. Some (page_in x)) block_here ∙ ap (λ x. Some x) page))
        (λ other. ap (λ v. cond v (Some p) (get m q)) other ∙ d.pages q ∙ same_pages q other (ix q) refl ∙ sym (ap (page_at (put h b f)) (with_other ix k (Some h) q other)))
        (key_cases q k);
  }
    where
      same_pages : (q : Key) → eq_by_cmp key_cmp q k ≡ false → (o : Option ℕ) → ix q ≡ o → page_at f (ix q) ≡ page_at (put h b f) (ix q)
      same_pages q other None is = ap (page_at f) is ∙ sym (ap (page_at (put h b f)) is)
      same_pages q other (Some i) is = ap (page_at f) is ∙ ap (λ x. Some (page_in x)) (sym (put_apart h b f i (moved q i alone other is))) ∙ sym (ap (page_at (put h b f)) is)

  pub indexed_gone : Alone → ix k ≡ Some h → home_is_used b ≡ false → Indexed lay (put h b f) (with_home ix k None) (remove m k)
  indexed_gone alone here unused = record {
    sound = λ q i is. ⊎_elim
        (λ e. absurd (none_some i (sym (with_here ix k None q e) ∙ is)))
        (λ other. let was = sym (with_other ix k None q other) ∙ is in
        let there = put_apart h b f i (moved q i alone other was) in
        let s = d.sound q i was in
        (s.0, ap home_is_used there ∙ s.1, ap key_in there ∙ s.2))
        (key_cases q k);
    whole = λ i hi ui. ⊎_elim
        (λ at. absurd (both_ways _ (ap home_is_used (put_here h b f i at) ∙ unused) ui))
        (λ other. let there = put_apart h b f i other in
        let was = d.whole i hi (sym (ap home_is_used there) ∙ ui) in
        with_other ix k None (key_in (put h b f i)) (apart_keys _ k (λ e. other (some_same i h (sym was ∙ ap ix (sym (ap key_in there) ∙ e) ∙ here)))) ∙ ap ix (ap key_in there) ∙ was)
        (cases_eq i h);
    pages = λ q. get-remove key_cmp_total m k q ∙ ⊎_elim
        (λ e. ap (λ v. cond v None (get m q)) (ap (λ x. eq_by_cmp key_cmp x k) e ∙ key_itself k) ∙ sym (ap (page_at (put h b f)) (with_here ix k None q e)))
        (λ other. ap (λ v. cond v None (get m q)) other ∙ d.pages q ∙ same_pages q other (ix q) refl ∙ sym (ap (page_at (put h b f)) (with_other ix k None q other)))
        (key_cases q k);
  }
    where
      same_pages : (q : Key) → eq_by_cmp key_cmp q k ≡ false → (o : Option ℕ) → ix q ≡ o → page_at f (ix q) ≡ page_at (put h b f) (ix q)
      same_pages q other None is = ap (page_at f) is ∙ sym (ap (page_at (put h b f)) is)
      same_pages q other (Some i) is = ap (page_at f) is ∙ ap (λ x. Some (page_in x)) (sym (put_apart h b f i (moved q i alone other is))) ∙ sym (ap (page_at (put h b f)) is)

-- a key that is not there is taken away
pub indexed_none : (lay : Layout) (f : ℕ → Block) (ix : Index) (m : Content) (k : Key) → Indexed lay f ix m → ix k ≡ None → Indexed lay f ix (remove m k)
indexed_none lay f ix m k d none = subst (Indexed lay f ix) (sym same) d
  where
    same : remove m k ≡ m
    same = same_map key_cmp_total key_same (remove m k) m (λ q. get-remove key_cmp_total m k q ∙ ⊎_elim
        (λ e. ap (λ v. cond v None (get m q)) (ap (λ x. eq_by_cmp key_cmp x k) e ∙ key_itself k) ∙ sym (d.pages q ∙ ap (λ x. page_at f (ix x)) e ∙ ap (page_at f) none))
        (λ other. ap (λ v. cond v None (get m q)) other)
        (key_cases q k))

-- homes alone count
pub indexed_same : (lay : Layout) (f g : ℕ → Block) (ix : Index) (m : Content) → ((i : ℕ) → is_home lay i ≡ true → g i ≡ f i) → Indexed lay f ix m → Indexed lay g ix m
indexed_same lay f g ix m same d = record {
  sound = λ k h at. let s = d.sound k h at in (s.0, ap home_is_used (same h s.0) ∙ s.1, ap key_in (same h s.0) ∙ s.2);
  whole = λ h home used. ap (λ b. ix (key_in b)) (same h home) ∙ d.whole h home (sym (ap home_is_used (same h home)) ∙ used);
  pages = λ k. d.pages k ∙ pages k (ix k) refl;
}
  where
    pages : (k : Key) (o : Option ℕ) → ix k ≡ o → page_at f o ≡ page_at g o
    pages k None at = refl
    pages k (Some h) at = ap (λ b. Some (page_in b)) (sym (same h (d.sound k h at).0))
