-- A log that is replayed because its gate is up, and a store that is read.
use Rattle.std.proofs.Common.{◌≡◌, ℕ, ◌+◌, ◌<◌, ◌≤◌, ◌^◌, Bool, true, false, not, cond, List, [], Result, Ok, Err, length, refl, sym, ◌∙◌, ap, subst, arith}
use Rattle.std.specs.Prelude.{IfErr, IfOk, OnOk, is_ok}
use Rattle.s38_disk.specs.declared.block.Block.{Block}
use Rattle.std.specs.FinMap.{get}
use Rattle.s38_disk.specs.Blocks.{DiskState, after_calls, stepped}
use Rattle.s38_disk.specs.Disk.{DiskView, IsAt, Notes, adding}
use Rattle.s38_disk.specs.declared.block.Call.TheVariants.{Synced}
use Rattle.s38_disk.specs.Moves.{IsSynced, Moves, MovesBy, Near}
use Rattle.s38_disk.proofs.Runs.{at_one, joins, now_at, same_past, step_at, told_before, weaker}
use Rattle.s38_vault.specs.Content.{Content}
use Rattle.s38_redo_log.specs.declared.layout.Layout.{Layout}
use Rattle.s38_redo_log.specs.declared.layout.Slot.{Slot}
use Rattle.s38_redo_log.specs.Coding.{home_is_used, is_store_label, is_up, key_in}
use Rattle.s38_redo_log.specs.Store.{IsLayout, IsLog, RecoversTo, entries_written, is_home, log_count, log_of, log_replayed}
use Rattle.s38_redo_log.specs.Phases.{HasRedone, IsRedone, MayRedo}
use Rattle.s38_redo_log.proofs.Crash.{holds_same, image_same}
use Rattle.s38_pages.specs.Index.{Homes}
use Rattle.s38_pages.specs.Mounts.{IsFinishFault, IsFinished, IsIndexFault, IsMounted, IsNotOfSize, IsReady, IsRefused, IsSized, fewest, layout_of}
use Rattle.s38_pages.specs.Scan.{AreTwins, IsScannedTo, Scanned}
use Rattle.s38_pages.specs.Vaults.{HoldsNow, IndexMatchesDisk, IsVault}
use Rattle.s38_vault.specs.Vaults.{most_changes}
use Rattle.s38_pages.specs.declared.fault.StoreFault.{StoreFault}
use Rattle.s38_pages.specs.declared.fault.StoreFault.TheVariants as faults
use Rattle.s38_pages.proofs.Beginning.{content_of, scanned_indexed}
use Rattle.s38_pages.proofs.Contents.{holds_indexed}
use Rattle.s38_pages.proofs.Entries.{log_length}

pub not_true : (b : Bool) → not b ≡ true → b ≡ false
not_true true e = absurd (cc)
not_true false e = refl

-- a run from a disk that was only read before
pub moves_from : {v w x : DiskView} {n : ℕ} {R : DiskState → DiskState → Type 0} → w.size ≡ v.size → v.faults ≤ w.faults → w.past ≡ v.past → Moves w x n R → Moves v x n R
moves_from size later past m = record {
  size = m.size ∙ size;
  later = omega (arith, later, m.later);
  calls = m.calls;
  past = m.past ∙ ap (adding m.calls) past;
  few = m.few;
  each = λ s is. m.each s (subst (λ p. IsAt p s) (sym past) is);
}

-- a disk that was only read
pub only_read : {v w : DiskView} (n : ℕ) (R : DiskState → DiskState → Type 0) → w.size ≡ v.size → v.faults ≤ w.faults → w.past ≡ v.past → Moves v w n R
only_read {v} {w} n R size later past = weaker n R (same_past v w R size later past) (omega arith) (λ s u at r. r)

module _ (lay : Layout) (is : IsLayout lay) (es : List Slot) (good : IsLog lay es) where
  redone_is : (f : ℕ → Block) → is_up (f 1) ≡ true → log_of f ≡ es → (i : ℕ) → log_replayed f i ≡ entries_written es f i
  redone_is f up log i = ap (λ v. cond v (entries_written (log_of f) f) f i) up ∙ ap (λ xs. entries_written xs f i) log

  pub may_redo : (s : DiskState) (m : Content) → is_up (s.now 1) ≡ true → log_count s.now ≡ length es → log_of s.now ≡ es → IsSynced s → RecoversTo lay s.now m → MayRedo lay es s m
  may_redo s m up count log settled stands = record {
    settled = settled;
    up = up;
    ready = record {
      label = stands.label;
      count = count;
      log = log;
      good = good;
      behind = holds_same lay is (log_replayed s.now) (entries_written es s.now) m (λ i h. sym (redone_is s.now up log i)) stands.holds;
    };
  }

  pub mounted_redone : (s u : DiskState) → is_up (s.now 1) ≡ true → log_count s.now ≡ length es → log_of s.now ≡ es → IsRedone lay es s u → IsMounted lay s u
  mounted_redone s u up count log r = record { each = λ m settled stands g image. r.each m (may_redo s m up count log settled stands) g image }

  pub finished_redone : (s t : DiskState) → is_up (s.now 1) ≡ true → log_count s.now ≡ length es → log_of s.now ≡ es → HasRedone lay es s t → IsFinished lay s t
  finished_redone s t up count log r = record {
    settled = λ _. r.settled;
    homes = λ i h. r.homes i h ∙ sym (redone_is s.now up log i);
    log = λ _. subst (IsLog lay) (sym log) good;
    rests = λ m settled stands. r.rests m (may_redo s m up count log settled stands);
  }

-- ---- a store that is opened

-- what is synced stays as it is
pub settles : {v w : DiskView} (lay : Layout) → Moves v w 1 (Near (λ i. false)) → Moves v w 1 (IsMounted lay)
settles lay x = weaker 1 (IsMounted lay) x (omega arith) (λ s u at near. record {
  each = λ m settled stands g image.
      let same = image_same (λ i. false) s u g settled near image in
      subst (λ f. RecoversTo lay f m) (λ j i. sym (same i refl) j) stands;
})

pub ready_moves : {a b c : DiskView} {n : ℕ} (lay : Layout) → Moves a b 1 (IsMounted lay) → MovesBy a b (λ s t. IsSynced t × (t.now ≡ s.now)) → Moves b c n (IsMounted lay) → Moves a c (1 + n) (IsMounted lay)
ready_moves lay x e y = joins (IsMounted lay) x y (λ s u is r. r) (λ s t u is at r. record {
  each = λ m settled stands g image. let known = e s t is at in r.each m known.0 (subst (λ f. RecoversTo lay f m) (sym known.1) stands) g image;
})

pub ready_ends : {a b c : DiskView} {n : ℕ} (lay : Layout) → Moves a b 1 (IsMounted lay) → MovesBy a b (λ s t. IsSynced t × (t.now ≡ s.now)) → Moves b c n (IsMounted lay) → MovesBy b c (IsFinished lay) → MovesBy a c (IsReady lay)
ready_ends {a} {b} {c} lay x e y f s u is at =
    let mid = now_at x s is in
    let t = after_calls s x.calls in
    let known = e s t is mid in
    let entries_written = f t u mid at in
    record {
      settled = entries_written.settled known.0;
      homes = λ i h. entries_written.homes i h ∙ ap (λ (g : ℕ → Block). log_replayed g i) known.1;
      log = λ up. subst (λ (g : ℕ → Block). IsLog lay (log_of g)) known.1 (entries_written.log (ap (λ (g : ℕ → Block). is_up (g 1)) known.1 ∙ up));
      rests = λ m stands. entries_written.rests m known.0 (subst (λ f. RecoversTo lay f m) (sym known.1) stands);
    }

-- the store that was made ready holds the content of its index
pub opened_stands : (lay : Layout) → IsLayout lay → (s t : DiskState) (homes : Homes) → is_store_label (s.now 0) ≡ true → IsReady lay s t → Scanned lay t.now (get homes) lay.size → RecoversTo lay s.now (content_of t.now homes)
opened_stands lay is s t homes label ready scanned = record {
  label = label;
  log = λ up. let good = ready.log up in let count = log_length s.now in (omega (arith, good.most, count), good);
  holds = holds_same lay is t.now (log_replayed s.now) (content_of t.now homes) (λ i h. sym (ready.homes i h)) (holds_indexed lay t.now (get homes) (content_of t.now homes) (scanned_indexed t.now lay homes scanned));
}

-- twins of the store that was made ready are twins of the store with its log replayed
pub twins_same : (lay : Layout) (f g : ℕ → Block) (first second : ℕ) → ((i : ℕ) → is_home lay i ≡ true → f i ≡ g i) → AreTwins lay f first second → AreTwins lay g first second
twins_same lay f g first second same d = record {
  order = d.order;
  first_home = d.first_home;
  second_home = d.second_home;
  first_used = ap home_is_used (sym (same first d.first_home)) ∙ d.first_used;
  second_used = ap home_is_used (sym (same second d.second_home)) ∙ d.second_used;
  one_key = ap key_in (sym (same first d.first_home)) ∙ d.one_key ∙ ap key_in (same second d.second_home);
  least = λ i j lt below hi hj ui uj e. d.least i j lt below hi hj (ap home_is_used (same i hi) ∙ ui) (ap home_is_used (same j hj) ∙ uj) (ap key_in (same i hi) ∙ e ∙ ap key_in (sym (same j hj)));
}

pub is_layout : (blocks : ℕ) → fewest ≤ blocks → IsLayout (layout_of blocks)
is_layout blocks le = record { room = omega arith; size = omega (arith, le) }

pub index_refused : (blocks : ℕ) (s t : DiskState) (fault : StoreFault) → fewest ≤ blocks → is_store_label (s.now 0) ≡ true → IsReady (layout_of blocks) s t → IsIndexFault (layout_of blocks) t.now fault → IsRefused blocks s.now fault
index_refused blocks s t (faults.TooSmall size) le label ready is = absurd is
index_refused blocks s t faults.AlreadyInstalled le label ready is = is
index_refused blocks s t faults.NotInstalled le label ready is = absurd is
index_refused blocks s t (faults.LogDamaged block) le label ready is = absurd is
index_refused blocks s t (faults.TwoBlocks first second) le label ready is = (le, label, ready.log, twins_same (layout_of blocks) t.now (log_replayed s.now) first second ready.homes is)
index_refused blocks s t faults.Failed le label ready is = tt
index_refused blocks s t faults.NoMemory le label ready is = tt

-- ---- answers

pub settle_ends : {T E : Type 0} {v w : DiskView} (r : Result T E) → Notes v w (is_ok r) (Synced (is_ok r)) → OnOk r (MovesBy v w (λ s t. IsSynced t × (t.now ≡ s.now)))
settle_ends {v = v} {w = w} (Ok x) notes = λ s t is at.
    let same = at_one w.past t (stepped s (Synced true)) at (step_at notes s is) in
    (λ i. ap (λ (u : DiskState). u.pending i) same, ap (λ (u : DiskState). u.now) same)
settle_ends (Err e) notes = tt

pub map_err : {T E : Type 0} {P Q : E → Type 0} (r : Result T E) → IfErr r P → ((e : E) → P e → Q e) → IfErr r Q
map_err (Ok x) p f = tt
map_err (Err e) p f = f e p

pub each_ok : {T E : Type 0} (Q : T → Type 0) (r : Result T E) → ((x : T) → r ≡ Ok x → Q x) → IfOk r Q
each_ok Q (Ok x) f = f x refl
each_ok Q (Err e) f = tt

pub at_ok : {T E : Type 0} (P : T → Type 0) (r : Result T E) (x : T) → r ≡ Ok x → IfOk r P → P x
at_ok P r x e p = subst (λ q. IfOk q P) e p

pub opened_tells : {v w : DiskView} {n : ℕ} {R : DiskState → DiskState → Type 0} (x : DiskView) (lay : Layout) → IsLayout lay → Moves v w n R → x.past ≡ w.past → (homes : Homes) → ((s : DiskState) → IsAt v.past s → is_store_label (s.now 0) ≡ true)
    → MovesBy v w (IsReady lay) → ((t : DiskState) → IsAt w.past t → Scanned lay t.now (get homes) lay.size) → IndexMatchesDisk lay x (get homes)
opened_tells x lay is m past homes label e scanned t at_x =
    let at = subst (λ p. IsAt p t) past at_x in
    let was = told_before m t at in
    let s = was.0 in
    let ready = e s t was.1 at in
    let read = scanned t at in
    let stands = opened_stands lay is s t homes (label s was.1) ready read in
    (ready.settled, (content_of t.now homes, ready.rests (content_of t.now homes) stands, scanned_indexed t.now lay homes read))

pub opened_content : {v w : DiskView} {n : ℕ} {R : DiskState → DiskState → Type 0} (x : DiskView) (lay : Layout) → IsLayout lay → Moves v w n R → x.past ≡ w.past → (homes : Homes) → ((s : DiskState) → IsAt v.past s → is_store_label (s.now 0) ≡ true)
    → MovesBy v w (IsReady lay) → ((t : DiskState) → IsAt w.past t → Scanned lay t.now (get homes) lay.size) → (s : DiskState) → IsAt v.past s → (m : Content) × (RecoversTo lay s.now m × HoldsNow lay x true m)
opened_content x lay is m past homes label e scanned s at_s =
    let at = now_at m s at_s in
    let t = after_calls s m.calls in
    let ready = e s t at_s at in
    let stands = opened_stands lay is s t homes (label s at_s) ready (scanned t at) in
    (content_of t.now homes, (stands, (refl, (t, subst (λ p. IsAt p t) (sym past) at, ready.rests (content_of t.now homes) stands))))

pub opened_vault : {x : DiskView} {homes : Homes} {used : List Bool} {slots : List Slot} {capacity h : ℕ} {good : Bool} (lay : Layout) → IsLayout lay → lay.most ≡ most_changes → lay.size ≤ x.size → lay.size < 2 ^ 32 → IsScannedTo lay homes used h → slots ≡ []
    → lay.most ≤ capacity → (good ≡ true → IndexMatchesDisk lay x (get homes)) → IsVault lay x homes used slots capacity good
opened_vault lay is limits size few k empty room tells = record {
  layout = is;
  limits = limits;
  size = size;
  few = few;
  marks = k.size;
  empty = empty;
  room = room;
  index = k.index;
  free = k.free;
  objects = k.objects;
  parts = k.parts;
  told = tells;
}

-- a disk that is large enough is not too small
pub large_sized : (blocks : ℕ) (fault : StoreFault) → fewest ≤ blocks → IsNotOfSize fault → IsSized blocks fault
large_sized blocks (faults.TooSmall size) le other = absurd other
large_sized blocks faults.AlreadyInstalled le other = le
large_sized blocks faults.NotInstalled le other = le
large_sized blocks (faults.LogDamaged block) le other = le
large_sized blocks (faults.TwoBlocks first second) le other = le
large_sized blocks faults.Failed le other = le
large_sized blocks faults.NoMemory le other = le
