-- What each phase of a put leaves at a crash, and what it leads to.
use Rattle.std.proofs.Common.{◌≡◌, ◌⊎◌, ◌==◌, ℕ, ◌<◌, ◌≤◌, nat_le, nat_lt, Bool, true, false, cond, List, length, Some, refl, sym, ◌∙◌, ap, subst, arith, inl, inr, ⊎_elim}
use Rattle.std.proofs.lemmas.Bool.{cases_Bool, both_ways, ne_eqb, le-ltb, and_right}
use Rattle.std.specs.FinMap.{get}
use Rattle.s38_disk.specs.declared.block.Block.{Block}
use Rattle.s38_disk.specs.Blocks.{DiskState, IsCrashImage}
use Rattle.s38_disk.specs.Moves.{IsSynced, Near, SameBut}
use Rattle.s38_vault.specs.Content.{Content}
use Rattle.s38_redo_log.specs.declared.layout.Layout.{Layout}
use Rattle.s38_redo_log.specs.declared.layout.Slot.{Slot}
use Rattle.s38_redo_log.specs.Coding.{home_is_used, is_store_label, is_up, key_in, page_in}
use Rattle.s38_redo_log.specs.Store.{HomesHold, IsLayout, IsLog, RecoversTo, entries_written, is_home, log_count, log_of, log_replayed, targets}
use Rattle.s38_redo_log.specs.Phases.{CanReplay, Idle, LogWritten, gate, in_log}
use Rattle.s38_redo_log.proofs.Again.{done_same, done_other, done_twice, log_same, home_above, below_homes}

-- a crash leaves what was there outside A
pub image_same : (A : ℕ → Bool) (s u : DiskState) (g : ℕ → Block) → IsSynced s → Near A s u → IsCrashImage u g → SameBut A s.now g
image_same A s u g settled near image i out = image.same i (near.pending i out (settled i)) ∙ near.now i out

module _ (lay : Layout) (is : IsLayout lay) where
  pub home_apart : (i k : ℕ) → is_home lay i ≡ true → k < lay.first → (i == k) ≡ false
  home_apart i k h le = let above = home_above lay i h in ne_eqb i k (λ e. let p : ⊥ = omega arith in p)

  pub home_after_log : (i : ℕ) → is_home lay i ≡ true → in_log lay i ≡ false
  home_after_log i h = and_right (nat_le 2 i) (nat_lt i lay.first) (le-ltb i lay.first (home_above lay i h))

  -- contents are read from homes alone
  pub holds_same : (f g : ℕ → Block) (m : Content) → ((i : ℕ) → is_home lay i ≡ true → g i ≡ f i) → HomesHold lay f m → HomesHold lay g m
  holds_same f g m same h = record {
    kept = λ i home used. subst (λ b. home_is_used b ≡ true → get m (key_in b) ≡ Some (page_in b)) (sym (same i home)) (h.kept i home) used;
    found = λ k p e. let at = h.found k p e in (at.0, at.1, ap home_is_used (same at.0 at.1) ∙ at.2, ap key_in (same at.0 at.1) ∙ at.3, ap page_in (same at.0 at.1) ∙ at.4);
    once = λ i j hi hj ui uj e. h.once i j hi hj (sym (ap home_is_used (same i hi)) ∙ ui) (sym (ap home_is_used (same j hj)) ∙ uj) (sym (ap key_in (same i hi)) ∙ e ∙ ap key_in (same j hj));
  }

  redone_down : (f : ℕ → Block) → is_up (f 1) ≡ false → (i : ℕ) → log_replayed f i ≡ f i
  redone_down f e i = ap (λ v. cond v (entries_written (log_of f) f) f i) e

  redone_up : (f : ℕ → Block) → is_up (f 1) ≡ true → (i : ℕ) → log_replayed f i ≡ entries_written (log_of f) f i
  redone_up f e i = ap (λ v. cond v (entries_written (log_of f) f) f i) e

  no_log : (f : ℕ → Block) → is_up (f 1) ≡ false → is_up (f 1) ≡ true → (log_count f ≤ lay.most) × IsLog lay (log_of f)
  no_log f e up = absurd (both_ways _ e up)

  -- ---- blocks whose log is idle

  pub idle_recovers : (f : ℕ → Block) (m : Content) → Idle lay f m → RecoversTo lay f m
  idle_recovers f m r = record {
    label = r.label;
    log = no_log f r.down;
    holds = holds_same f (log_replayed f) m (λ i h. redone_down f r.down i) r.holds;
  }

  -- the log is written while its gate is down
  pub rests_log : (f g : ℕ → Block) (m : Content) → Idle lay f m → SameBut (in_log lay) f g → Idle lay g m
  rests_log f g m r same = record {
    label = ap is_store_label (same 0 refl) ∙ r.label;
    down = ap is_up (same 1 refl) ∙ r.down;
    holds = holds_same f g m (λ i h. same i (home_after_log i h)) r.holds;
  }

  -- ---- a whole log

  module _ (es : List Slot) where
    leads_up : (f : ℕ → Block) (m n : Content) → LogWritten lay es f m n → is_up (f 1) ≡ true → RecoversTo lay f n
    leads_up f m n l up = record {
      label = l.label;
      log = λ is_up. (subst (λ k. k ≤ lay.most) (sym l.count) l.good.most, subst (IsLog lay) (sym l.log) l.good);
      holds = holds_same (entries_written es f) (log_replayed f) n (λ i h. redone_up f up i ∙ ap (λ xs. entries_written xs f i) l.log) l.behind;
    }

    leads_down : (f : ℕ → Block) (m n : Content) → LogWritten lay es f m n → is_up (f 1) ≡ false → RecoversTo lay f m
    leads_down f m n l down = record {
      label = l.label;
      log = no_log f down;
      holds = holds_same f (log_replayed f) m (λ i h. redone_down f down i) l.before;
    }

    -- the gate may hold anything
    pub leads_gate : (f g : ℕ → Block) (m n : Content) → LogWritten lay es f m n → SameBut gate f g → LogWritten lay es g m n
    leads_gate f g m n l same =
        let read = log_same lay f g is (subst (λ k. k ≤ lay.most) (sym l.count) l.good.most) (λ i two below. same i (ne_eqb i 1 (λ e. let p : ⊥ = omega arith in p))) in
        record {
          label = ap is_store_label (same 0 refl) ∙ l.label;
          count = read.0 ∙ l.count;
          log = read.1 ∙ l.log;
          good = l.good;
          before = holds_same f g m (λ i h. same i (home_apart i 1 h (omega (arith, is.room)))) l.before;
          behind = holds_same (entries_written es f) (entries_written es g) n (λ i h. done_same es g f i (λ none. same i (home_apart i 1 h (omega (arith, is.room))))) l.behind;
        }

    pub log_written_recovers : (f : ℕ → Block) (m n : Content) → LogWritten lay es f m n → RecoversTo lay f m ⊎ RecoversTo lay f n
    log_written_recovers f m n l = ⊎_elim (λ up. inr (leads_up f m n l up)) (λ down. inl (leads_down f m n l down)) (cases_Bool (is_up (f 1)))

    pub leads_ready : (f : ℕ → Block) (m n : Content) → LogWritten lay es f m n → CanReplay lay es f n
    leads_ready f m n l = record { label = l.label; count = l.count; log = l.log; good = l.good; behind = l.behind }

    -- the homes of the log may hold anything while the gate is up
    pub homes_recover : (f g : ℕ → Block) (n : Content) → CanReplay lay es f n → is_up (f 1) ≡ true → SameBut (targets es) f g → RecoversTo lay g n
    homes_recover f g n l up same =
        let below : (i : ℕ) → i < lay.first → g i ≡ f i = λ i le. same i (below_homes lay es i l.good.homes le) in
        let read = log_same lay f g is (subst (λ k. k ≤ lay.most) (sym l.count) l.good.most) (λ i two le. below i le) in
        let is_up_g : is_up (g 1) ≡ true = ap is_up (below 1 (omega (arith, is.room))) ∙ up in
        record {
          label = ap is_store_label (below 0 (omega (arith, is.room))) ∙ l.label;
          log = λ _. (subst (λ k. k ≤ lay.most) (sym (read.0 ∙ l.count)) l.good.most, subst (IsLog lay) (sym (read.1 ∙ l.log)) l.good);
          holds = holds_same (entries_written es f) (log_replayed g) n (λ i h. redone_up g is_up_g i ∙ ap (λ xs. entries_written xs g i) (read.1 ∙ l.log) ∙ done_same es g f i (same i)) l.behind;
        }

    -- the homes are written
    pub leads_done : (f g : ℕ → Block) (n : Content) → CanReplay lay es f n → ((i : ℕ) → g i ≡ entries_written es f i) → LogWritten lay es g n n
    leads_done f g n l all =
        let below : (i : ℕ) → i < lay.first → g i ≡ f i = λ i le. all i ∙ done_other es f i (below_homes lay es i l.good.homes le) in
        let read = log_same lay f g is (subst (λ k. k ≤ lay.most) (sym l.count) l.good.most) (λ i two le. below i le) in
        record {
          label = ap is_store_label (below 0 (omega (arith, is.room))) ∙ l.label;
          count = read.0 ∙ l.count;
          log = read.1 ∙ l.log;
          good = l.good;
          before = holds_same (entries_written es f) g n (λ i h. all i) l.behind;
          behind = holds_same (entries_written es f) (entries_written es g) n (λ i h. done_same es g (entries_written es f) i (λ none. all i) ∙ done_twice es f i) l.behind;
        }

    -- the gate is down again
    pub leads_rests : (f : ℕ → Block) (m n : Content) → LogWritten lay es f m n → is_up (f 1) ≡ false → Idle lay f m
    leads_rests f m n l down = record { label = l.label; down = down; holds = l.before }

    -- the log is whole, and its gate is down
    pub rests_leads : (f g : ℕ → Block) (m n : Content) → Idle lay f m → SameBut (in_log lay) f g → log_count g ≡ length es → log_of g ≡ es → IsLog lay es → HomesHold lay (entries_written es f) n → LogWritten lay es g m n
    rests_leads f g m n r same count log good behind =
        let kept = rests_log f g m r same in
        record {
          label = kept.label;
          count = count;
          log = log;
          good = good;
          before = kept.holds;
          behind = holds_same (entries_written es f) (entries_written es g) n (λ i h. done_same es g f i (λ none. same i (home_after_log i h))) behind;
        }
