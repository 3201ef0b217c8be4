-- One change more is planned: its slot, the index after it, the content after it.
use Rattle.std.proofs.Common.{◌≡◌, ◌⊎◌, ◌==◌, ◌||◌, ◌&&◌, ℕ, ◌+◌, Bool, true, false, not, List, [], ◌∷◌, ◌++◌, length, Some, None, refl, sym, ◌∙◌, ap, subst, arith, inl, inr, ⊎_elim, length-append}
use Rattle.std.proofs.lemmas.Bool.{true≢false, eqb-true, eq-eqb, ne_eqb, cases_Bool, both_ways}
use Rattle.std.specs.Ordering.{eq_by_cmp}
use Rattle.s38_disk.specs.declared.block.Block.{Block}
use Rattle.s38_base.specs.declared.page.Key.{Key}
use Rattle.s38_base.specs.declared.page.Page.{Page}
use Rattle.s38_base.specs.declared.page.Change.{Change}
use Rattle.s38_vault.specs.Content.{Content, with_value, changed}
use Rattle.s38_vault.specs.Keys.{key_cmp}
use Rattle.s38_redo_log.specs.declared.layout.Layout.{Layout}
use Rattle.s38_redo_log.specs.declared.layout.Slot.{Slot}
use Rattle.s38_redo_log.specs.Coding.{home_is_used, key_in, page_in}
use Rattle.s38_redo_log.specs.Store.{AreHomes, entries_written, is_home, targets}
use Rattle.s38_pages.specs.Index.{HasKey, Index, Indexed, IsHomeIndex, Planned, freed, frees, with_home}
use Rattle.s38_redo_log.proofs.Writes.{done-push}
use Rattle.s38_pages.proofs.Contents.{key_cases, key_itself, with_here, with_other, some_same, none_some, indexed_page, indexed_gone, indexed_none}

changed-push : (cs : List Change) (c : Change) (m : Content) → changed m (cs ++ c ∷ []) ≡ with_value (changed m cs) c.key c.page
changed-push [] c m = refl
changed-push (x ∷ cs) c m = changed-push cs c (with_value m x.key x.page)

has_more : (cs : List Change) (c : Change) (q : Key) → HasKey cs q → HasKey (cs ++ c ∷ []) q
has_more [] c q none = absurd none
has_more (x ∷ cs) c q (inl here) = inl here
has_more (x ∷ cs) c q (inr there) = inr (has_more cs c q there)

has_last : (cs : List Change) (c : Change) → HasKey (cs ++ c ∷ []) c.key
has_last [] c = inl refl
has_last (x ∷ cs) c = inr (has_last cs c)

pub targets-push : (es : List Slot) (e : Slot) (i : ℕ) → targets (es ++ e ∷ []) i ≡ true → (targets es i ≡ true) ⊎ (i ≡ e.home)
targets-push [] e i hit = inr (eqb-true i e.home (one (i == e.home) hit))
  where
    one : (b : Bool) → (b || false) ≡ true → b ≡ true
    one true h = refl
    one false h = h
targets-push (x ∷ es) e i hit = by (targets-push es e i) (i == x.home) hit
  where
    by : (targets (es ++ e ∷ []) i ≡ true → (targets es i ≡ true) ⊎ (i ≡ e.home)) → (b : Bool) → (b || targets (es ++ e ∷ []) i) ≡ true → ((b || targets es i) ≡ true) ⊎ (i ≡ e.home)
    by rest true h = inl refl
    by rest false h = rest h

pub not_target : (es : List Slot) (e : Slot) (i : ℕ) → targets es i ≡ false → (i ≡ e.home → ⊥) → targets (es ++ e ∷ []) i ≡ false
not_target es e i none other = ⊎_elim (λ hit. absurd (⊎_elim (λ t. both_ways _ none t) other (targets-push es e i hit))) (λ f. f) (cases_Bool (targets (es ++ e ∷ []) i))

pub apart_now : (x : Bool) (y : Bool) → (x || y) ≡ false → (x ≡ false) × (y ≡ false)
apart_now true y e = absurd (true≢false e)
apart_now false y e = (refl, e)

pub homes-push : (lay : Layout) (es : List Slot) (e : Slot) → AreHomes lay es → targets es e.home ≡ false → is_home lay e.home ≡ true → AreHomes lay (es ++ e ∷ [])
homes-push lay [] e all none home = (home, refl, tt)
homes-push lay (x ∷ es) e all none home =
    let parts = apart_now (e.home == x.home) (targets es e.home) none in
    (all.0, not_target es e x.home all.1 (λ same. true≢false (sym (eq-eqb e.home x.home (sym same)) ∙ parts.0)), homes-push lay es e all.2 parts.1 home)

-- a slot with a page frees no home
freed-kept : (es : List Slot) (e : Slot) (i : ℕ) → home_is_used e.block ≡ true → freed (es ++ e ∷ []) i ≡ freed es i
freed-kept [] e i used = ap (λ b. ((i == e.home) && not b) || false) used ∙ never (i == e.home)
  where
    never : (b : Bool) → ((b && false) || false) ≡ false
    never true = refl
    never false = refl
freed-kept (x ∷ es) e i used = ap (λ b. ((i == x.home) && frees x) || b) (freed-kept es e i used)

freed-other : (es : List Slot) (e : Slot) (i : ℕ) → (i ≡ e.home → ⊥) → freed (es ++ e ∷ []) i ≡ freed es i
freed-other [] e i other = ap (λ b. (b && frees e) || false) (ne_eqb i e.home other)
freed-other (x ∷ es) e i other = ap (λ b. ((i == x.home) && frees x) || b) (freed-other es e i other)

-- a home that no slot has is freed by none
pub untargeted : (es : List Slot) (i : ℕ) → targets es i ≡ false → freed es i ≡ false
untargeted [] i none = refl
untargeted (e ∷ es) i none =
    let parts = apart_now (i == e.home) (targets es i) none in
    ap (λ b. (b && frees e) || freed es i) parts.0 ∙ untargeted es i parts.1

-- the index where a key keeps its home
pub with_itself : (ix : Index) (k : Key) (h : ℕ) → ix k ≡ Some h → with_home ix k (Some h) ≡ ix
with_itself ix k h at = λ i q. same q i
  where
    same : (q : Key) → with_home ix k (Some h) q ≡ ix q
    same q = ⊎_elim (λ e. with_here ix k (Some h) q e ∙ sym (ap ix e ∙ at)) (λ other. with_other ix k (Some h) q other) (key_cases q k)

pub longer : {A : Type 0} (xs : List A) (x : A) → length (xs ++ x ∷ []) ≡ length xs + 1
longer xs x = length-append xs (x ∷ [])

module _ (lay : Layout) (old : Index) where
  pub planned_start : (used : ℕ → Bool) → IsHomeIndex lay old used → Planned lay old old used [] []
  planned_start used is = record {
    index = is;
    homes = tt;
    mine = λ h hit. absurd (true≢false (sym hit));
    live = λ q h at. refl;
    leads = λ f m d. d;
    few = omega arith;
  }

  module _ (now : Index) (used : ℕ → Bool) (es : List Slot) (cs : List Change) (p : Planned lay old now used es cs) (c : Change) (new : HasKey cs c.key → ⊥) where
    -- a page is put at a home that no other key has
    page_planned : (page : Page) (slot : Slot) (later : ℕ → Bool) → c.page ≡ Some page → is_home lay slot.home ≡ true → targets es slot.home ≡ false
        → ((q : Key) → now q ≡ Some slot.home → q ≡ c.key) → ((i : ℕ) → now c.key ≡ Some i → i ≡ slot.home)
        → later slot.home ≡ true → ((i : ℕ) → used i ≡ true → later i ≡ true)
        → home_is_used slot.block ≡ true → key_in slot.block ≡ c.key → page_in slot.block ≡ page
        → Planned lay old (with_home now c.key (Some slot.home)) later (es ++ slot ∷ []) (cs ++ c ∷ [])
    page_planned page slot later is home free alone own marked more is_in key content = record {
      index = record {
        home = λ k h at. ⊎_elim (λ e. ap (is_home lay) (some_same h slot.home (sym at ∙ with_here now c.key (Some slot.home) k e)) ∙ home) (λ other. p.index.home k h (sym (with_other now c.key (Some slot.home) k other) ∙ at)) (key_cases k c.key);
        used_there = λ k h at. ⊎_elim (λ e. ap later (some_same h slot.home (sym at ∙ with_here now c.key (Some slot.home) k e)) ∙ marked) (λ other. more h (p.index.used_there k h (sym (with_other now c.key (Some slot.home) k other) ∙ at))) (key_cases k c.key);
        apart = λ k q h at_k at_q. same k q h (key_cases k c.key) (key_cases q c.key) at_k at_q;
      };
      homes = homes-push lay es slot p.homes free home;
      mine = λ h hit. ⊎_elim
          (λ was. let m = p.mine h was in (more h m.0, λ q at. ⊎_elim (λ e. subst (HasKey (cs ++ c ∷ [])) (sym e) (has_last cs c)) (λ other. has_more cs c q (m.1 q (sym (with_other now c.key (Some slot.home) q other) ∙ at))) (key_cases q c.key)))
          (λ e. (ap later e ∙ marked, λ q at. ⊎_elim (λ is_k. subst (HasKey (cs ++ c ∷ [])) (sym is_k) (has_last cs c)) (λ other. subst (HasKey (cs ++ c ∷ [])) (sym (alone q (sym (with_other now c.key (Some slot.home) q other) ∙ at ∙ ap (λ n. Some n) e))) (has_last cs c)) (key_cases q c.key)))
          (targets-push es slot h hit);
      leads = λ f m d. subst (Indexed lay (entries_written (es ++ slot ∷ []) f) (with_home now c.key (Some slot.home))) (sym (changed-push cs c m ∙ ap (λ x. with_value (changed m cs) c.key x) is))
          (subst (λ g. Indexed lay g (with_home now c.key (Some slot.home)) (with_value (changed m cs) c.key (Some page))) (sym (done-push es slot f))
          (indexed_page lay (entries_written es f) now (changed m cs) (p.leads f m d) c.key slot.home slot.block page home alone is_in key content own));
      live = λ q h at. ⊎_elim
          (λ e. freed-kept es slot h is_in ∙ untargeted es h (ap (targets es) (some_same h slot.home (sym at ∙ with_here now c.key (Some slot.home) q e)) ∙ free))
          (λ other. freed-kept es slot h is_in ∙ p.live q h (sym (with_other now c.key (Some slot.home) q other) ∙ at))
          (key_cases q c.key);
      few = omega (arith, p.few, longer es slot, longer cs c);
    }
      where
        same : (k q : Key) (h : ℕ) → ((k ≡ c.key) ⊎ (eq_by_cmp key_cmp k c.key ≡ false)) → ((q ≡ c.key) ⊎ (eq_by_cmp key_cmp q c.key ≡ false)) → with_home now c.key (Some slot.home) k ≡ Some h → with_home now c.key (Some slot.home) q ≡ Some h → k ≡ q
        same k q h (inl a) (inl b) at_k at_q = a ∙ sym b
        same k q h (inl a) (inr b) at_k at_q = a ∙ sym (alone q (sym (with_other now c.key (Some slot.home) q b) ∙ at_q ∙ ap (λ n. Some n) (some_same h slot.home (sym at_k ∙ with_here now c.key (Some slot.home) k a))))
        same k q h (inr a) (inl b) at_k at_q = alone k (sym (with_other now c.key (Some slot.home) k a) ∙ at_k ∙ ap (λ n. Some n) (some_same h slot.home (sym at_q ∙ with_here now c.key (Some slot.home) q b))) ∙ sym b
        same k q h (inr a) (inr b) at_k at_q = p.index.apart k q h (sym (with_other now c.key (Some slot.home) k a) ∙ at_k) (sym (with_other now c.key (Some slot.home) q b) ∙ at_q)

    -- no slot has the home of a key that is still to come
    fresh_there : (h : ℕ) → now c.key ≡ Some h → targets es h ≡ false
    fresh_there h at = ⊎_elim (λ hit. absurd (new ((p.mine h hit).1 c.key at))) (λ f. f) (cases_Bool (targets es h))

    fresh_free : (h : ℕ) → used h ≡ false → targets es h ≡ false
    fresh_free h free = ⊎_elim (λ hit. absurd (both_ways _ free (p.mine h hit).0)) (λ f. f) (cases_Bool (targets es h))

    -- over the home that it has
    pub planned_over : (page : Page) (slot : Slot) (later : ℕ → Bool) → c.page ≡ Some page → now c.key ≡ Some slot.home
        → later slot.home ≡ true → ((i : ℕ) → used i ≡ true → later i ≡ true)
        → home_is_used slot.block ≡ true → key_in slot.block ≡ c.key → page_in slot.block ≡ page
        → Planned lay old (with_home now c.key (Some slot.home)) later (es ++ slot ∷ []) (cs ++ c ∷ [])
    planned_over page slot later is at marked more is_in key content = page_planned page slot later is (p.index.home c.key slot.home at) (fresh_there slot.home at)
        (λ q at_q. p.index.apart q c.key slot.home at_q at) (λ i at_i. some_same i slot.home (sym at_i ∙ at)) marked more is_in key content

    -- at a free home
    pub planned_new : (page : Page) (slot : Slot) (later : ℕ → Bool) → c.page ≡ Some page → now c.key ≡ None → is_home lay slot.home ≡ true → used slot.home ≡ false
        → later slot.home ≡ true → ((i : ℕ) → used i ≡ true → later i ≡ true)
        → home_is_used slot.block ≡ true → key_in slot.block ≡ c.key → page_in slot.block ≡ page
        → Planned lay old (with_home now c.key (Some slot.home)) later (es ++ slot ∷ []) (cs ++ c ∷ [])
    planned_new page slot later is none home free marked more is_in key content = page_planned page slot later is home (fresh_free slot.home free)
        (λ q at_q. absurd (both_ways _ free (p.index.used_there q slot.home at_q))) (λ i at_i. absurd (none_some i (sym none ∙ at_i))) marked more is_in key content

    -- a page is taken away
    pub planned_gone : (slot : Slot) → c.page ≡ None → now c.key ≡ Some slot.home → home_is_used slot.block ≡ false
        → Planned lay old (with_home now c.key None) used (es ++ slot ∷ []) (cs ++ c ∷ [])
    planned_gone slot is at unused = record {
      index = record {
        home = λ k h at_k. by (λ was. p.index.home k h was) (key_cases k c.key) at_k;
        used_there = λ k h at_k. by (λ was. p.index.used_there k h was) (key_cases k c.key) at_k;
        apart = λ k q h at_k at_q. by (λ was. by (λ was_q. p.index.apart k q h was was_q) (key_cases q c.key) at_q) (key_cases k c.key) at_k;
      };
      homes = homes-push lay es slot p.homes (fresh_there slot.home at) (p.index.home c.key slot.home at);
      mine = λ h hit. ⊎_elim
          (λ was. let m = p.mine h was in (m.0, λ q at_q. by (λ was_q. has_more cs c q (m.1 q was_q)) (key_cases q c.key) at_q))
          (λ e. (ap used e ∙ p.index.used_there c.key slot.home at, λ q at_q. by (λ was_q. subst (HasKey (cs ++ c ∷ [])) (p.index.apart c.key q slot.home at (was_q ∙ ap (λ n. Some n) e)) (has_last cs c)) (key_cases q c.key) at_q))
          (targets-push es slot h hit);
      leads = λ f m d. subst (Indexed lay (entries_written (es ++ slot ∷ []) f) (with_home now c.key None)) (sym (changed-push cs c m ∙ ap (λ x. with_value (changed m cs) c.key x) is))
          (subst (λ g. Indexed lay g (with_home now c.key None) (with_value (changed m cs) c.key None)) (sym (done-push es slot f))
          (indexed_gone lay (entries_written es f) now (changed m cs) (p.leads f m d) c.key slot.home slot.block (λ q at_q. p.index.apart q c.key slot.home at_q at) at unused));
      live = λ q h at_q. live q h (key_cases q c.key) at_q;
      few = omega (arith, p.few, longer es slot, longer cs c);
    }
      where
        live : (q : Key) (h : ℕ) → ((q ≡ c.key) ⊎ (eq_by_cmp key_cmp q c.key ≡ false)) → with_home now c.key None q ≡ Some h → freed (es ++ slot ∷ []) h ≡ false
        live q h (inl e) at_q = absurd (none_some h (sym (with_here now c.key None q e) ∙ at_q))
        live q h (inr other) at_q =
            let was = sym (with_other now c.key None q other) ∙ at_q in
            freed-other es slot h (λ e. both_ways _ other (ap (λ x. eq_by_cmp key_cmp x c.key) (p.index.apart q c.key slot.home (was ∙ ap (λ n. Some n) e) at) ∙ key_itself c.key)) ∙ p.live q h was

        by : {k : Key} {h : ℕ} {G : Type 0} → (now k ≡ Some h → G) → ((k ≡ c.key) ⊎ (eq_by_cmp key_cmp k c.key ≡ false)) → with_home now c.key None k ≡ Some h → G
        by {k} {h} go (inl e) at_k = absurd (none_some h (sym (with_here now c.key None k e) ∙ at_k))
        by {k} {h} go (inr other) at_k = go (sym (with_other now c.key None k other) ∙ at_k)

    -- a key that is not there is taken away
    pub planned_none : c.page ≡ None → now c.key ≡ None → Planned lay old now used es (cs ++ c ∷ [])
    planned_none is none = record {
      index = p.index;
      homes = p.homes;
      mine = λ h hit. ((p.mine h hit).0, λ q at. has_more cs c q ((p.mine h hit).1 q at));
      leads = λ f m d. subst (Indexed lay (entries_written es f) now) (sym (changed-push cs c m ∙ ap (λ x. with_value (changed m cs) c.key x) is)) (indexed_none lay (entries_written es f) now (changed m cs) c.key (p.leads f m d) none);
      live = p.live;
      few = omega (arith, p.few, longer cs c);
    }

-- ---- blocks

pub used_block : (b : Block) (k : Key) → key_in b ≡ k → (k.object ≡ 0 → ⊥) → home_is_used b ≡ true
used_block b k e object = ap (λ (x : Key). not (x.object == 0)) e ∙ ap not (ne_eqb k.object 0 object)
