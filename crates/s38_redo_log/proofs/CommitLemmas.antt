-- The four phases of a put, one after another.
use Rattle.std.proofs.Common.{◌≡◌, length-append, IsFalse, ◌⊎◌, ℕ, zero, suc, ◌+◌, ◌/◌, ◌<◌, ◌≤◌, Bool, true, false, List, [], ◌∷◌, length, refl, sym, ◌∙◌, ap, arith, inl, inr, ⊎_elim}
use Rattle.std.proofs.lemmas.Bool.{ltb-true, and_parts}
use Rattle.s38_disk.specs.declared.block.Block.{Block}
use Rattle.s38_disk.specs.Blocks.{DiskState, after_calls, put}
use Rattle.s38_disk.specs.Disk.{DiskView, Notes, Past, adding, moment_of}
use Rattle.s38_disk.specs.Disk.Past.{Told, Untold}
use Rattle.s38_disk.specs.declared.block.Call.{Call}
use Rattle.s38_disk.specs.Moves.{IsSynced, Moves, MovesBy, Near, SameBut}
use Rattle.s38_disk.proofs.Runs.{joins, weaker, near_end, now_at}
use Rattle.s38_vault.specs.Content.{Content}
use Rattle.s38_redo_log.specs.declared.layout.Layout.{Layout}
use Rattle.s38_redo_log.specs.declared.layout.Slot.{Slot}
use Rattle.s38_redo_log.specs.Coding.{is_up}
use Rattle.s38_redo_log.specs.Store.{AreHomes, IsLayout, IsLog, entries_written, is_home, log_count, log_of, targets}
use Rattle.s38_redo_log.specs.Phases.{HasRedone, IsAllOrNone, IsPut, IsRedone, LogWritten, MayPut, block_between, gate, in_log, slot_at}
use Rattle.s38_redo_log.proofs.Crash.{holds_same, home_after_log, home_apart, homes_recover, idle_recovers, image_same, leads_done, leads_gate, leads_ready, leads_rests, log_written_recovers, rests_leads, rests_log}
use Rattle.s38_redo_log.proofs.Again.{done_same}
use Rattle.s38_redo_log.proofs.LogLemmas.{between_sub, put_here, put_apart}

module _ (lay : Layout) (is : IsLayout lay) (es : List Slot) (good : IsLog lay es) where
  -- synced, and the log leads there
  abbrev Logged : DiskState → DiskState → Type 0
  Logged s t = IsSynced t × ((m n : Content) → MayPut lay es s m n → LogWritten lay es t.now m n) × ((i : ℕ) → is_home lay i ≡ true → t.now i ≡ s.now i)

  abbrev Raised : DiskState → DiskState → Type 0
  Raised s t = IsSynced t × (is_up (t.now 1) ≡ true) × ((m n : Content) → MayPut lay es s m n → LogWritten lay es t.now m n) × ((i : ℕ) → is_home lay i ≡ true → t.now i ≡ s.now i)

  abbrev Homed : DiskState → DiskState → Type 0
  Homed s t = IsSynced t × ((m n : Content) → MayPut lay es s m n → LogWritten lay es t.now n n) × ((i : ℕ) → is_home lay i ≡ true → t.now i ≡ entries_written es s.now i)

  abbrev R : DiskState → DiskState → Type 0
  R = IsAllOrNone lay es

  abbrev L : ℕ → Bool
  L = block_between 2 (3 + length es / 132 + length es)

  log_fits : (i : ℕ) → in_log lay i ≡ false → L i ≡ false
  log_fits = between_sub 2 lay.first 2 (3 + length es / 132 + length es) (omega arith) (omega (arith, is.room, good.most))

  pub log_all_or_none : {v w : DiskView} {p : ℕ} → Moves v w p (Near L) → Moves v w p R
  log_all_or_none {v} {w} {p} x = weaker p R x (omega arith) (λ s u at near. record {
    each = λ m n may g image. let same = image_same L s u g may.settled near image in
        inl (idle_recovers lay is g m (rests_log lay is s.now g m may.rests (λ i out. same i (log_fits i out))));
  })

  pub log_ends : {v w : DiskView} {p : ℕ} → Moves v w p (Near L) → MovesBy v w (λ s t. IsSynced t × (log_count t.now ≡ length es) × (log_of t.now ≡ es)) → MovesBy v w Logged
  log_ends x e s t at_s at_t =
      let near = near_end L x s t at_s at_t in
      let is_log = e s t at_s at_t in
      (is_log.0, λ m n may. rests_leads lay is es s.now t.now m n may.rests (λ i out. near.now i (log_fits i out)) is_log.1 is_log.2 good may.behind, λ i h. near.now i (log_fits i (home_after_log lay is i h)))

  pub gate_all_or_none : {a b c : DiskView} {p q : ℕ} → Moves a b p R → MovesBy a b Logged → Moves b c q (Near gate) → Moves a c (p + q) R
  gate_all_or_none x e y = joins R x y (λ s u at r. r) (λ s t u at_s at_t near. record {
    each = λ m n may g image. let known = e s t at_s at_t in
        log_written_recovers lay is es g m n (leads_gate lay is es t.now g m n (known.1 m n may) (image_same gate t u g known.0 near image));
  })

  same_gate : (f g : ℕ → Block) (b : Block) → g ≡ put 1 b f → SameBut gate f g
  same_gate f g b e i out = ap (λ (h : ℕ → Block). h i) e ∙ put_apart 1 b f i (λ x. false_true (sym out ∙ gate_one i x))
    where
      false_true : false ≡ true → ⊥
      false_true e = absurd (cc)

      gate_one : (i : ℕ) → i ≡ 1 → gate i ≡ true
      gate_one i x = ap gate x

  pub gate_ends : {a b c : DiskView} {p q : ℕ} (block : Block) → Moves a b p R → MovesBy a b Logged → Moves b c q (Near gate) → is_up block ≡ true → MovesBy b c (λ s t. IsSynced t × (t.now ≡ put 1 block s.now)) → MovesBy a c Raised
  gate_ends block x e y up f s t at_s at_t =
      let at_mid = now_at x s at_s in
      let mid = after_calls s x.calls in
      let known = e s mid at_s at_mid in
      let step = f mid t at_mid at_t in
      (step.0, ap (λ (h : ℕ → Block). is_up (h 1)) step.1 ∙ ap is_up (put_here 1 block mid.now 1 refl) ∙ up, λ m n may. leads_gate lay is es mid.now t.now m n (known.1 m n may) (same_gate mid.now t.now block step.1), λ i h. same_gate mid.now t.now block step.1 i (home_apart lay is i 1 h (omega (arith, is.room))) ∙ known.2 i h)

  pub homes_all_or_none : {a b c : DiskView} {p q : ℕ} → Moves a b p R → MovesBy a b Raised → Moves b c q (Near (targets es)) → Moves a c (p + q) R
  homes_all_or_none x e y = joins R x y (λ s u at r. r) (λ s t u at_s at_t near. record {
    each = λ m n may g image. let known = e s t at_s at_t in
        inr (homes_recover lay is es t.now g n (leads_ready lay is es t.now m n (known.2 m n may)) known.1 (image_same (targets es) t u g known.0 near image));
  })

  pub homes_ends : {a b c : DiskView} {p q : ℕ} → Moves a b p R → MovesBy a b Raised → Moves b c q (Near (targets es)) → MovesBy b c (λ s t. IsSynced t × ((i : ℕ) → t.now i ≡ entries_written es s.now i)) → MovesBy a c Homed
  homes_ends x e y f s t at_s at_t =
      let at_mid = now_at x s at_s in
      let mid = after_calls s x.calls in
      let known = e s mid at_s at_mid in
      let step = f mid t at_mid at_t in
      (step.0, λ m n may. leads_done lay is es mid.now t.now n (leads_ready lay is es mid.now m n (known.2 m n may)) step.1, λ i h. step.1 i ∙ done_same es mid.now s.now i (λ none. known.3 i h))

  pub down_all_or_none : {a b c : DiskView} {p q : ℕ} → Moves a b p R → MovesBy a b Homed → Moves b c q (Near gate) → Moves a c (p + q) R
  down_all_or_none x e y = joins R x y (λ s u at r. r) (λ s t u at_s at_t near. record {
    each = λ m n may g image. let known = e s t at_s at_t in
        inr (⊎_elim (λ st. st) (λ st. st) (log_written_recovers lay is es g n n (leads_gate lay is es t.now g n n (known.1 m n may) (image_same gate t u g known.0 near image))));
  })

  pub down_ends : {a b c : DiskView} {p q : ℕ} (block : Block) → Moves a b p R → MovesBy a b Homed → Moves b c q (Near gate) → is_up block ≡ false → MovesBy b c (λ s t. IsSynced t × (t.now ≡ put 1 block s.now)) → MovesBy a c (IsPut lay es)
  down_ends block x e y down f s t at_s at_t =
      let at_mid = now_at x s at_s in
      let mid = after_calls s x.calls in
      let known = e s mid at_s at_mid in
      let step = f mid t at_mid at_t in
      record {
        settled = step.0;
        homes = λ i h. same_gate mid.now t.now block step.1 i (home_apart lay is i 1 h (omega (arith, is.room))) ∙ known.2 i h;
        rests = λ m n may. leads_rests lay is es t.now n n (leads_gate lay is es mid.now t.now n n (known.1 m n may) (same_gate mid.now t.now block step.1))
            (ap (λ (h : ℕ → Block). is_up (h 1)) step.1 ∙ ap is_up (put_here 1 block mid.now 1 refl) ∙ down);
      }

pub home_below : (lay : Layout) (i : ℕ) → is_home lay i ≡ true → i < lay.size
home_below lay i h = ltb-true i lay.size (and_parts _ _ (and_parts _ _ h).1).0

pub homes_at : (lay : Layout) (es : List Slot) (k : ℕ) → AreHomes lay es → k < length es → is_home lay (slot_at es k).home ≡ true
homes_at lay [] k all le = absurd (omega arith)
homes_at lay (e ∷ es) zero all le = all.0
homes_at lay (e ∷ es) (suc k) all le = homes_at lay es k all.2 (omega arith)

pub homes_below : (lay : Layout) (es : List Slot) (size : ℕ) → AreHomes lay es → lay.size ≤ size → (k : ℕ) → k < length es → (slot_at es k).home < size
homes_below lay es size all le k lt = let below = home_below lay (slot_at es k).home (homes_at lay es k all lt) in omega arith

-- ---- a put without a home

abbrev pub none : ℕ → Bool
none i = false

pub sync_all_or_none : {v w : DiskView} (lay : Layout) (is : IsLayout lay) → Moves v w 1 (Near none) → Moves v w 1 (IsAllOrNone lay [])
sync_all_or_none lay is x = weaker 1 (IsAllOrNone lay []) x (omega arith) (λ s u at near. record {
  each = λ m n may g image. inl (idle_recovers lay is g m (rests_log lay is s.now g m may.rests (λ i out. image_same none s u g may.settled near image i refl)));
})

pub sync_ends : {v w : DiskView} (lay : Layout) (is : IsLayout lay) → Moves v w 1 (Near none) → MovesBy v w (λ s t. (i : ℕ) → t.pending i ≡ false) → MovesBy v w (IsPut lay [])
sync_ends lay is x e s t at_s at_t =
    let near = near_end none x s t at_s at_t in
    record {
      settled = e s t at_s at_t;
      homes = λ i h. near.now i refl;
      rests = λ m n may. let r = rests_log lay is s.now t.now m may.rests (λ i out. near.now i refl) in
          record { label = r.label; down = r.down; holds = holds_same lay is s.now t.now n (λ i h. near.now i refl) may.behind };
    }

-- ---- a log that is replayed

module _ (lay : Layout) (is : IsLayout lay) (es : List Slot) (good : IsLog lay es) where
  pub redo_homes : {v w : DiskView} {q : ℕ} → Moves v w q (Near (targets es)) → Moves v w q (IsRedone lay es)
  redo_homes {v} {w} {q} x = weaker q (IsRedone lay es) x (omega arith) (λ s u at near. record {
    each = λ n may g image. homes_recover lay is es s.now g n may.ready may.up (image_same (targets es) s u g may.settled near image);
  })

  pub redo_down : {a b c : DiskView} {p q : ℕ} → Moves a b p (IsRedone lay es) → MovesBy a b (λ s t. IsSynced t × ((i : ℕ) → t.now i ≡ entries_written es s.now i)) → Moves b c q (Near gate) → Moves a c (p + q) (IsRedone lay es)
  redo_down x e y = joins (IsRedone lay es) x y (λ s u at r. r) (λ s t u at_s at_t near. record {
    each = λ n may g image. let known = e s t at_s at_t in
        ⊎_elim (λ st. st) (λ st. st) (log_written_recovers lay is es g n n (leads_gate lay is es t.now g n n (leads_done lay is es s.now t.now n may.ready known.1) (image_same gate t u g known.0 near image)));
  })

  pub redo_ends : {a b c : DiskView} {p q : ℕ} (block : Block) → Moves a b p (IsRedone lay es) → MovesBy a b (λ s t. IsSynced t × ((i : ℕ) → t.now i ≡ entries_written es s.now i)) → Moves b c q (Near gate) → is_up block ≡ false
      → MovesBy b c (λ s t. IsSynced t × (t.now ≡ put 1 block s.now)) → MovesBy a c (HasRedone lay es)
  redo_ends block x e y down f s t at_s at_t =
      let at_mid = now_at x s at_s in
      let mid = after_calls s x.calls in
      let known = e s mid at_s at_mid in
      let step = f mid t at_mid at_t in
      record {
        settled = step.0;
        homes = λ i h. same_gate lay is es good mid.now t.now block step.1 i (home_apart lay is i 1 h (omega (arith, is.room))) ∙ known.1 i;
        rests = λ n may. leads_rests lay is es t.now n n (leads_gate lay is es mid.now t.now n n (leads_done lay is es s.now mid.now n may.ready known.1) (same_gate lay is es good mid.now t.now block step.1))
            (ap (λ (h : ℕ → Block). is_up (h 1)) step.1 ∙ ap is_up (put_here 1 block mid.now 1 refl) ∙ down);
      }

-- ---- the moment

moment_adding : (p : Past) (calls : List Call) → moment_of (adding calls p) ≡ moment_of p + length calls
moment_adding (Told first was) calls = length-append was calls
moment_adding (Untold n) calls = refl

-- no run takes the moment back
pub moment_later : {v w : DiskView} {most : ℕ} {R : DiskState → DiskState → Type 0} → Moves v w most R → moment_of v.past ≤ moment_of w.past
moment_later {v} {w} x = let same = ap moment_of x.past ∙ moment_adding v.past x.calls in omega arith

-- a call that went well is counted
pub moment_rises : {v w : DiskView} {call : Call} → Notes v w true call → moment_of v.past < moment_of w.past
moment_rises {v} {w} {call} n = by n.past
  where
    by : (w.past ≡ adding (call ∷ []) v.past) ⊎ ((w.past ≡ v.past) × IsFalse true) → moment_of v.past < moment_of w.past
    by (inl made) = let same = ap moment_of made ∙ moment_adding v.past (call ∷ []) in omega arith
    by (inr none) = absurd (true_false none.1)
      where
        true_false : IsFalse true → ⊥
        true_false e = cc
