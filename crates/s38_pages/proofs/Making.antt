-- A store that is made: zeros, the first homes, and then the label.
use Rattle.std.proofs.Common.{◌≡◌, ℕ, ◌+◌, ◌<◌, ◌≤◌, Bool, true, false, cond, List, [], ◌∷◌, length, Option, None, refl, sym, ◌∙◌, ap, subst, arith, inl, inr, ⊎_elim}
use Rattle.std.proofs.lemmas.Bool.{both_ways, cases_Bool, cases_eq, cases_lt, ne_eqb}
use Rattle.std.proofs.lemmas.List.Sums.{sum_by-cons}
use Rattle.std.specs.FinMap.{get, get-empty, same_map}
use Rattle.std.specs.Option.{option_map}
use Rattle.s38_base.specs.declared.page.Change.{Change}
use Rattle.s38_base.specs.declared.page.Key.{Key}
use Rattle.s38_disk.specs.declared.block.Block.{Block}
use Rattle.s38_disk.specs.Blocks.{DiskState, after_calls, put}
use Rattle.s38_disk.specs.Disk.{DiskView, IsAt}
use Rattle.s38_disk.specs.Moves.{IsSynced, Moves, MovesBy, Near, SameBut}
use Rattle.s38_disk.proofs.Runs.{joins, near_end, now_at, told_before, weaker}
use Rattle.s38_vault.specs.Content.{Content}
use Rattle.s38_vault.specs.Directory.{Keys, changed_keys, is_new, keys_of, new_keys}
use Rattle.s38_vault.specs.Keys.{key_cmp, key_cmp_total}
use Rattle.s38_vault.proofs.DirectoryLaws.{get-keys_of, keys_of-changed}
use Rattle.s38_redo_log.specs.declared.layout.Layout.{Layout}
use Rattle.s38_redo_log.specs.declared.layout.Slot.{Slot}
use Rattle.s38_redo_log.specs.Coding.{is_store_label, is_up}
use Rattle.s38_redo_log.specs.Store.{AreHomes, IsLayout, entries_written, is_home, targets}
use Rattle.s38_redo_log.specs.Phases.{Idle, block_between}
use Rattle.s38_redo_log.proofs.Again.{below_homes, done_other, home_above}
use Rattle.s38_redo_log.proofs.CommitLemmas.{home_below}
use Rattle.s38_redo_log.proofs.Crash.{holds_same, idle_recovers, image_same}
use Rattle.s38_redo_log.proofs.LogLemmas.{between_below, put_apart, put_here}
use Rattle.s38_pages.specs.Formats.{AreFree, Fills, IsBlank, IsMade, IsMaking, first_content, label_place, no_homes, no_pages}
use Rattle.s38_pages.specs.Index.{Homes, Index, Indexed, Planned, page_at}
use Rattle.s38_pages.specs.Vaults.{HoldsNow, IndexMatchesDisk}
use Rattle.s38_pages.proofs.Contents.{holds_indexed, indexed_same, key_same, none_some}
use Rattle.s38_pages.proofs.Finishing.{moves_from}

-- one block more is blank
pub blank_more : (at : ℕ) (b : Block) (f : ℕ → Block) → IsBlank b → ((i : ℕ) → 1 ≤ i → i < at → IsBlank (f i)) → (i : ℕ) → 1 ≤ i → i < at + 1 → IsBlank (put at b f i)
blank_more at b f blank old i low le = ⊎_elim
    (λ e. subst IsBlank (sym (put_here at b f i e)) blank)
    (λ other. subst IsBlank (sym (put_apart at b f i other)) (old i low (let p : i < at = ⊎_elim (λ lt. lt) (λ ge. absurd (other (omega (arith, ge, le)))) (cases_lt i at) in p)))
    (cases_eq i at)

pub blank_same : {s t : DiskState} → t ≡ s → (i : ℕ) → IsBlank (s.now i) → IsBlank (t.now i)
blank_same e i blank = subst (λ (u : DiskState). IsBlank (u.now i)) (sym e) blank

module _ (lay : Layout) (is : IsLayout lay) (es : List Slot) (good : AreHomes lay es) where
  abbrev zone : ℕ → Bool
  zone = block_between 1 lay.size

  -- nothing is pending, the label's place is as it was, and all else is blank
  abbrev Blanked : DiskState → DiskState → Type 0
  Blanked s t = IsSynced t × (t.now 0 ≡ s.now 0) × ((i : ℕ) → 1 ≤ i → i < lay.size → IsBlank (t.now i))

  -- the same, with the slots written
  abbrev Filled : DiskState → DiskState → Type 0
  Filled s t = IsSynced t × (t.now 0 ≡ s.now 0) × (is_up (t.now 1) ≡ false) × ((f : ℕ → Block) × (AreFree lay f × ((i : ℕ) → is_home lay i ≡ true → t.now i ≡ entries_written es f i)))

  home_apart_0 : (i : ℕ) → is_home lay i ≡ true → label_place i ≡ false
  home_apart_0 i h = let above = home_above lay i h in ne_eqb i 0 (λ e. let p : ⊥ = omega (arith, above, e, is.room) in p)

  pub blanked : {v w : DiskView} {p : ℕ} → Moves v w p (Near zone) → MovesBy v w (λ s t. IsSynced t × ((i : ℕ) → 1 ≤ i → i < lay.size → IsBlank (t.now i))) → MovesBy v w Blanked
  blanked x e s t at_s at_t =
      let near = near_end zone x s t at_s at_t in
      let known = e s t at_s at_t in
      (known.0, near.now 0 (between_below 1 lay.size 0 (omega arith)), known.1)

  pub filled : {a b c : DiskView} {p q : ℕ} {R S : DiskState → DiskState → Type 0} → Moves a b p R → MovesBy a b Blanked → Moves b c q S → MovesBy b c (λ s t. IsSynced t × ((i : ℕ) → t.now i ≡ entries_written es s.now i)) → MovesBy a c Filled
  filled x e y f s t at_s at_t =
      let mid = after_calls s x.calls in
      let at_mid = now_at x s at_s in
      let known = e s mid at_s at_mid in
      let step = f mid t at_mid at_t in
      let low : (i : ℕ) → i < lay.first → t.now i ≡ mid.now i = λ i lt. step.1 i ∙ done_other es mid.now i (below_homes lay es i good lt) in (
        step.0,
        low 0 (omega (arith, is.room)) ∙ known.1,
        ap is_up (low 1 (omega (arith, is.room))) ∙ (known.2 1 (omega arith) (omega (arith, is.room, is.size))).1,
        (mid.now, (λ i h. (let above = home_above lay i h in known.2 i (omega (arith, above, is.room)) (home_below lay i h)).0, λ i h. step.1 i)),
      )

  pub made : {a b c : DiskView} {p q : ℕ} {R S : DiskState → DiskState → Type 0} → Moves a b p R → MovesBy a b Filled → Moves b c q S → MovesBy b c (λ s t. IsSynced t × (is_store_label (t.now 0) ≡ true) × SameBut label_place s.now t.now) → MovesBy a c (λ s t. IsMade lay es t)
  made x e y f s t at_s at_t =
      let mid = after_calls s x.calls in
      let at_mid = now_at x s at_s in
      let known = e s mid at_s at_mid in
      let step = f mid t at_mid at_t in
      record {
        settled = step.0;
        label = step.1;
        down = ap is_up (step.2 1 refl) ∙ known.2;
        homes = (known.3.0, (known.3.1.0, λ i h. step.2 i (home_apart_0 i h) ∙ known.3.1.1 i h));
      }

  module _ (m : Content) (fills : Fills lay es m) where
    abbrev R : DiskState → DiskState → Type 0
    R = IsMaking lay m

    pub zeros_making : {v w : DiskView} {p : ℕ} → ((s : DiskState) → IsAt v.past s → is_store_label (s.now 0) ≡ false) → Moves v w p (Near zone) → Moves v w p R
    zeros_making {p = p} fresh x = weaker p R x (omega arith) (λ s u at near. record {
      each = λ settled g image. inl (ap is_store_label (image_same zone s u g settled near image 0 (between_below 1 lay.size 0 (omega arith))) ∙ fresh s at);
    })

    pub homes_making : {a b c : DiskView} {p q : ℕ} → ((s : DiskState) → IsAt a.past s → is_store_label (s.now 0) ≡ false) → Moves a b p R → MovesBy a b Blanked → Moves b c q (Near (targets es)) → Moves a c (p + q) R
    homes_making fresh x e y = joins R x y (λ s u at r. r) (λ s t u at_s at_t near. record {
      each = λ settled g image.
          let known = e s t at_s at_t in
          inl (ap is_store_label (image_same (targets es) t u g known.0 near image 0 (below_homes lay es 0 good (omega (arith, is.room))) ∙ known.1) ∙ fresh s at_s);
    })

    -- after the label is written the log is idle
    rests_filled : (s t : DiskState) (g : ℕ → Block) → Filled s t → SameBut label_place t.now g → is_store_label (g 0) ≡ true → Idle lay g m
    rests_filled s t g known same label = record {
      label = label;
      down = ap is_up (same 1 refl) ∙ known.2;
      holds = holds_same lay is (entries_written es known.3.0) g m (λ i h. same i (home_apart_0 i h) ∙ known.3.1.1 i h) (fills known.3.0 known.3.1.0);
    }

    pub label_making : {a b c : DiskView} {p q : ℕ} → Moves a b p R → MovesBy a b Filled → Moves b c q (Near label_place) → Moves a c (p + q) R
    label_making x e y = joins R x y (λ s u at r. r) (λ s t u at_s at_t near. record {
      each = λ settled g image.
          let known = e s t at_s at_t in
          let same = image_same label_place t u g known.0 near image in
          ⊎_elim (λ label. inr (idle_recovers lay is g m (rests_filled s t g known same label))) (λ none. inl none) (cases_Bool (is_store_label (g 0)));
    })

    pub made_rests : (t : DiskState) → IsMade lay es t → Idle lay t.now m
    made_rests t d = record {
      label = d.label;
      down = d.down;
      holds = holds_same lay is (entries_written es d.homes.0) t.now m (λ i h. d.homes.1.1 i h) (fills d.homes.0 d.homes.1.0);
    }

-- the moves of a store that is made, from where the disk was only read
pub making_moves : {v x w : DiskView} {n k : ℕ} (lay other : Layout) (m : Content) → lay ≡ other → n ≤ k → x.size ≡ v.size → v.faults ≤ x.faults → x.past ≡ v.past → Moves x w (lay.size + n + 3) (IsMaking lay m) → Moves v w (other.size + k + 3) (IsMaking other m)
making_moves {v} {x} {w} {n} {k} lay other m same le size later past run =
    subst (λ (l : Layout). Moves v w (l.size + k + 3) (IsMaking l m)) same (weaker (lay.size + k + 3) (IsMaking lay m) (moves_from size later past run) (omega (arith, le)) (λ s u at r. r))

-- one run after another, whatever they write
pub both_runs : {a b c : DiskView} {m n : ℕ} {R S : DiskState → DiskState → Type 0} → Moves a b m R → Moves b c n S → Moves a c (m + n) (λ s u. Unit {0})
both_runs x y = joins (λ s u. Unit {0}) x y (λ s u at r. tt) (λ s t u at_s at_t r. tt)

-- ---- the plan of the first content

-- changes bring at most as many keys as they are
pub new_few : (ks : Keys) (cs : List Change) → new_keys ks cs ≤ length cs
new_few ks [] = omega arith
new_few ks (c ∷ cs) =
    let rest = new_few ks cs in
    let more = sum_by-cons (λ d. cond (is_new ks d) 1 0) c cs in
    let one = at_most (is_new ks c) in
    omega (arith, rest, more, one)
  where
    at_most : (b : Bool) → cond b 1 0 ≤ 1
    at_most true = omega arith
    at_most false = omega arith

pub first_keys : (old now : Homes) (cs : List Change) → old ≡ no_homes → keys_of now ≡ changed_keys (keys_of old) cs → keys_of now ≡ keys_of (first_content cs)
first_keys old now cs none keys = keys ∙ ap (λ ks. changed_keys ks cs) nothing ∙ sym (keys_of-changed no_pages cs)
  where
    blank : {V : Type 0} (o : Option V) → o ≡ None → option_map (λ (v : V). tt {0}) o ≡ None
    blank o e = ap (option_map (λ _. tt)) e

    nothing : keys_of old ≡ keys_of no_pages
    nothing = same_map key_cmp_total key_same _ _ (λ q.
        get-keys_of old q ∙ blank (get old q) (ap (λ (x : Homes). get x q) none ∙ get-empty key_cmp q) ∙ sym (get-keys_of no_pages q ∙ blank (get no_pages q) (get-empty key_cmp q)))

indexed_free : (lay : Layout) (f : ℕ → Block) (homes : Homes) → homes ≡ no_homes → AreFree lay f → Indexed lay f (get homes) no_pages
indexed_free lay f homes none free = record {
  sound = λ k h at. absurd (none_some h (sym (nothing k) ∙ at));
  whole = λ h home used. absurd (both_ways _ (free h home) used);
  pages = λ k. get-empty key_cmp k ∙ ap (page_at f) (sym (nothing k));
}
  where
    nothing : (k : Key) → get homes k ≡ None
    nothing k = ap (λ (x : Homes). get x k) none ∙ get-empty key_cmp k

module _ (lay : Layout) (is : IsLayout lay) (old : Homes) (none : old ≡ no_homes) (now : Index) (used : ℕ → Bool) (es : List Slot) (cs : List Change) (p : Planned lay (get old) now used es cs) where
  pub plan_fills : Fills lay es (first_content cs)
  plan_fills f free = holds_indexed lay (entries_written es f) now (first_content cs) (p.leads f no_pages (indexed_free lay f old none free))

  pub made_tells : {v w : DiskView} {n : ℕ} {R : DiskState → DiskState → Type 0} → Moves v w n R → MovesBy v w (λ s t. IsMade lay es t) → IndexMatchesDisk lay w now
  made_tells x e t at_t =
      let was = told_before x t at_t in
      let d = e was.0 t was.1 at_t in
      (d.settled, (first_content cs, made_rests lay is es p.homes (first_content cs) plan_fills t d, indexed_same lay (entries_written es d.homes.0) t.now now (first_content cs) d.homes.1.1 (p.leads d.homes.0 no_pages (indexed_free lay d.homes.0 old none d.homes.1.0))))

  pub made_content : {v w : DiskView} {n : ℕ} {R : DiskState → DiskState → Type 0} → Moves v w n R → MovesBy v w (λ s t. IsMade lay es t) → (s : DiskState) → IsAt v.past s → HoldsNow lay w true (first_content cs)
  made_content x e s at_s =
      let t = after_calls s x.calls in
      let at_t = now_at x s at_s in
      (refl, (t, at_t, made_rests lay is es p.homes (first_content cs) plan_fills t (e s t at_s at_t)))
