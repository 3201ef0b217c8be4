-- A put of a vault, from its plan and its phases.
use Rattle.std.proofs.Common.{◌≡◌, ◌⊎◌, ◌&&◌, ℕ, ◌+◌, ◌-◌, ◌*◌, ◌/◌, ◌<◌, ◌≤◌, Bool, true, false, not, List, [], length, refl, sym, ◌∙◌, ap, subst, arith, inl, inr, ⊎_elim}
use Rattle.s38_disk.specs.declared.block.Block.{Block}
use Rattle.s38_disk.specs.Blocks.{DiskState, IsCrashImage, after_calls, blocks_of_list, synced_state}
use Rattle.s38_disk.specs.Disk.{DiskView, IsAt, Past, WasAt, moment_of}
use Rattle.s38_disk.specs.Disk.Past.{Told, Untold}
use Rattle.std.proofs.lemmas.List.{take_all}
use Rattle.s38_redo_log.proofs.Crash.{idle_recovers, rests_log}
use Rattle.s38_disk.specs.Moves.{IsSynced, Moves, MovesBy}
use Rattle.s38_disk.proofs.Runs.{weaker, now_at, told_before, at_one}
use Rattle.s38_disk.proofs.Times.{moments_of, moments_before}
use Rattle.s38_base.specs.declared.page.Change.{Change}
use Rattle.std.specs.FinMap.{get, len, same_map}
use Rattle.std.specs.Prelude.{OnOk, is_ok}
use Rattle.std.proofs.Common.{Result, Ok, Err}
use Rattle.std.proofs.lemmas.Bool.{cases_Bool}
use Rattle.std.proofs.Common.{Option, Some, None}
use Rattle.s38_base.specs.declared.page.Key.{Key}
use Rattle.s38_base.specs.declared.page.Page.{Page}
use Rattle.s38_vault.specs.Content.{Content, changed}
use Rattle.s38_vault.specs.Keys.{key_cmp_total}
use Rattle.s38_redo_log.specs.declared.layout.Layout.{Layout}
use Rattle.s38_redo_log.specs.declared.layout.Slot.{Slot}
use Rattle.s38_redo_log.specs.Store.{HomesHold, IsLayout, RecoversTo, entries_written, log_replayed}
use Rattle.s38_redo_log.specs.Phases.{Idle, IsAllOrNone, IsPut, MayPut}
use Rattle.s38_vault.specs.Content.{AreRising, HaveObjects}
use Rattle.s38_vault.specs.Directory.{NameObjects, changed_keys, gone_keys, keys_of, new_keys}
use Rattle.std.specs.Option.{option_map}
use Rattle.s38_vault.proofs.DirectoryLaws.{get-keys_of, len-changed_keys, len-keys_of, named_after}
use Rattle.s38_redo_log.proofs.Again.{targets_home}
use Rattle.s38_pages.specs.Index.{AreFreeHomes, Homes, Index, Indexed, Planned, Tallied, freed, marked, page_at}
use Rattle.s38_pages.proofs.Giving.{Given, freed_target}
use Rattle.s38_pages.specs.Mounts.{layout_of}
use Rattle.s38_pages.specs.Vaults.{AlwaysMounts, HoldsNow, IndexMatchesDisk, IsOneOf, IsVault, LeavesAt}
use Rattle.s38_pages.proofs.Contents.{holds_indexed, indexed_same, key_same}

module _ (lay : Layout) (old now : Index) (used : ℕ → Bool) (es : List Slot) (cs : List Change) (p : Planned lay old now used es cs) where
  may_put : (s : DiskState) (m : Content) → IsSynced s → Idle lay s.now m → Indexed lay s.now old m → MayPut lay es s m (changed m cs)
  may_put s m synced_state rests d = record { settled = synced_state; rests = rests; behind = holds_indexed lay (entries_written es s.now) now (changed m cs) (p.leads s.now m d) }

  pub put_moves : {v w : DiskView} → Moves v w (2 * length es + length es / 132 + 7) (IsAllOrNone lay es) → Moves v w (2 * length cs + length cs / 132 + 7) (IsOneOf lay old cs)
  put_moves x = weaker (2 * length cs + length cs / 132 + 7) (IsOneOf lay old cs) x (omega (arith, p.few)) (λ s u at all. record {
    each = λ m synced_state rests d g image. all.each m (changed m cs) (may_put s m synced_state rests d) g image;
  })

  -- after the put the log is idle, the homes hold the changed content, and the index is that of the homes
  pub put_told : {v w : DiskView} {n : ℕ} {R : DiskState → DiskState → Type 0} → Moves v w n R → MovesBy v w (IsPut lay es)
      → ((s : DiskState) → IsAt v.past s → IsSynced s × ((m : Content) × Idle lay s.now m × Indexed lay s.now old m))
      → (t : DiskState) → IsAt w.past t → IsSynced t × ((m : Content) × Idle lay t.now m × Indexed lay t.now now m)
  put_told x e told t at_t =
      let was = told_before x t at_t in
      let s = was.0 in
      let before = told s was.1 in
      let m = before.1.0 in
      let put = e s t was.1 at_t in
      (put.settled, (changed m cs, put.rests m (changed m cs) (may_put s m before.0 before.1.1 before.1.2), indexed_same lay (entries_written es s.now) t.now now (changed m cs) put.homes (p.leads s.now m before.1.2)))

-- the homes hold one content
pub same_content : (lay : Layout) (f : ℕ → Block) (m n : Content) → HomesHold lay f m → HomesHold lay f n → m ≡ n
same_content lay f m n a b = same_map key_cmp_total key_same m n (λ k. by k (get m k) (get n k) refl refl)
  where
    by : (k : Key) (o r : Option Page) → get m k ≡ o → get n k ≡ r → get m k ≡ get n k
    by k None None p q = p ∙ sym q
    by k (Some x) r p q = let at = a.found k x p in p ∙ ap (λ y. Some y) (sym at.4) ∙ sym (ap (get n) (sym at.3) ∙ b.kept at.0 at.1 at.2)
    by k None (Some x) p q = let at = b.found k x q in sym (q ∙ ap (λ y. Some y) (sym at.4) ∙ sym (ap (get m) (sym at.3) ∙ a.kept at.0 at.1 at.2))

pub put_holds : {v w : DiskView} {n : ℕ} {R : DiskState → DiskState → Type 0} (lay : Layout) (old now : Index) (used : ℕ → Bool) (es : List Slot) (cs : List Change) → Planned lay old now used es cs
    → Moves v w n R → MovesBy v w (IsPut lay es)
    → ((s : DiskState) → IsAt v.past s → IsSynced s × ((m : Content) × Idle lay s.now m × Indexed lay s.now old m))
    → (m : Content) → HoldsNow lay v true m → HoldsNow lay w true (changed m cs)
put_holds lay old now used es cs p x e told m holds =
    let s = holds.1.0 in
    let before = told s holds.1.1 in
    let t = after_calls s x.calls in
    let at_t = now_at x s holds.1.1 in
    let put = e s t holds.1.1 at_t in
    let one : before.1.0 ≡ m = same_content lay s.now before.1.0 m before.1.1.holds holds.1.2.holds in
    let d = subst (Indexed lay s.now old) one before.1.2 in
    (refl, (t, at_t, put.rests m (changed m cs) (may_put lay old now used es cs p s m before.0 holds.1.2 d)))

-- a read keeps the vault
pub keeps_vault : {lay : Layout} {v w : DiskView} {homes : Homes} {used : List Bool} {slots : List Slot} {capacity : ℕ} {good : Bool} → w.size ≡ v.size → w.past ≡ v.past → IsVault lay v homes used slots capacity good → IsVault lay w homes used slots capacity good
keeps_vault {lay} {v} {w} size past r = record {
  layout = r.layout;
  limits = r.limits;
  size = omega (arith, r.size, size);
  few = r.few;
  marks = r.marks;
  empty = r.empty;
  room = r.room;
  index = r.index;
  free = r.free;
  objects = r.objects;
  parts = r.parts;
  told = λ good s at. r.told good s (subst (λ p. IsAt p s) past at);
}

-- a put keeps the vault, whether it went well or not
pub put_vault : {lay : Layout} {v w : DiskView} {homes now : Homes} {used later last : List Bool} {slots es fs : List Slot} {capacity most : ℕ} {good ok : Bool} {cs : List Change} {R : DiskState → DiskState → Type 0} → IsVault lay v homes used slots capacity good
    → Planned lay (get homes) (get now) (marked later) es cs → Tallied homes now used later es cs → AreFreeHomes lay later → Given later last es → AreRising cs → HaveObjects cs → Moves v w most R → fs ≡ []
    → (ok ≡ true → IndexMatchesDisk lay w (get now)) → IsVault lay w now last fs capacity ok
put_vault {lay} {v} {w} {homes} {now} {used} {later} {last} {es = es} {cs = cs} r p t free g rising objects x empty told = record {
  layout = r.layout;
  limits = r.limits;
  size = omega (arith, r.size, x.size);
  few = r.few;
  marks = g.size ∙ t.size ∙ r.marks;
  empty = empty;
  room = r.room;
  index = record {
    home = p.index.home;
    used_there = λ k h at. g.marks h ∙ (λ i. p.index.used_there k h at i && not (p.live k h at i));
    apart = p.index.apart;
  };
  free = λ h le none. ⊎_elim
      (λ hit. targets_home lay es h p.homes (freed_target es h hit))
      (λ kept. free h (omega (arith, le, g.size)) (sym (left (marked later h) (freed es h) kept) ∙ sym (g.marks h) ∙ none))
      (cases_Bool (freed es h));
  objects = subst NameObjects (sym t.keys) (named_after (keys_of homes) cs r.objects objects);
  parts =
      let sum = len-changed_keys (keys_of homes) cs rising in
      let before = len-keys_of homes in
      let behind = len-keys_of now in
      let same = ap len t.keys in
      omega (arith, g.count, t.marks, t.freed, sum, before, behind, same, r.parts);
  told = told;
}
  where
    left : (a b : Bool) → b ≡ false → (a && not b) ≡ a
    left a b e = ap (λ x. a && not x) e ∙ right a
      where
        right : (a : Bool) → (a && true) ≡ a
        right true = refl
        right false = refl

-- the content says what a key's home holds
pub page_told : {lay : Layout} {v : DiskView} {homes : Homes} {used : List Bool} {slots : List Slot} {capacity : ℕ} {good : Bool} → IsVault lay v homes used slots capacity good → (m : Content) → HoldsNow lay v good m → (k : Key) → (s : DiskState) → IsAt v.past s → get m k ≡ page_at s.now (get homes k)
page_told {lay} {v} {homes} r m holds k s at =
    let told = r.told holds.0 s at in
    let same : holds.1.0 ≡ s = at_one v.past holds.1.0 s holds.1.1 at in
    let one : told.1.0 ≡ m = same_content lay s.now told.1.0 m told.1.1.holds (subst (λ (t : DiskState). Idle lay t.now m) same holds.1.2).holds in
    subst (λ n. get n k ≡ page_at s.now (get homes k)) one (told.1.2.pages k)

pub page_here : {lay : Layout} {v : DiskView} {homes : Homes} {used : List Bool} {slots : List Slot} {capacity : ℕ} {good : Bool} → IsVault lay v homes used slots capacity good → (k : Key) (o : Option ℕ) → get homes k ≡ o → (p : Option Page) → ((s : DiskState) → IsAt v.past s → page_at s.now o ≡ p) → (m : Content) → HoldsNow lay v good m → p ≡ get m k
page_here {lay} {v} {homes} r k o at p here m holds = sym (page_told r m holds k holds.1.0 holds.1.1 ∙ ap (page_at holds.1.0.now) at ∙ here holds.1.0 holds.1.1)

-- ---- what a vault tells of each moment

-- blocks that mount mount to one content
pub recovers_to_one : (lay : Layout) (g : ℕ → Block) (m n : Content) → RecoversTo lay g m → RecoversTo lay g n → m ≡ n
recovers_to_one lay g m n a b = same_content lay (log_replayed g) m n a.holds b.holds

pub told_moments : {lay : Layout} {v w : DiskView} {homes : Homes} {used : List Bool} {slots : List Slot} {capacity : ℕ} {good : Bool} {most : ℕ} {cs : List Change} → IsVault lay v homes used slots capacity good → Moves v w most (IsOneOf lay (get homes) cs)
    → (m : Content) → HoldsNow lay v good m → (t : ℕ) (n : Content) → moment_of v.past < t → t ≤ moment_of w.past → LeavesAt lay w.past t n → (n ≡ m) ⊎ (n ≡ changed m cs)
told_moments {lay} {v} {w} {homes} {cs = cs} r x m holds t n low high left =
    let s = holds.1.0 in
    let told = r.told holds.0 s holds.1.1 in
    let one : told.1.0 ≡ m = same_content lay s.now told.1.0 m told.1.1.holds holds.1.2.holds in
    let d = subst (Indexed lay s.now (get homes)) one told.1.2 in
    let g = left.2.0 in
    let both = (moments_of x s holds.1.1 t left.0 low high left.1).each m told.0 holds.1.2 d g left.2.1 in
    ⊎_elim (λ a. inl (recovers_to_one lay g n m left.2.2 a)) (λ b. inr (recovers_to_one lay g n (changed m cs) left.2.2 b)) both

-- whatever a put comes to, each image mounts
pub put_whole : {lay : Layout} {v w : DiskView} {homes : Homes} {used : List Bool} {slots : List Slot} {capacity most : ℕ} {good : Bool} {cs : List Change} → IsVault lay v homes used slots capacity good → good ≡ true
    → Moves v w most (IsOneOf lay (get homes) cs) → Moves v w most (AlwaysMounts lay)
put_whole {lay} {homes = homes} {most = most} {cs = cs} r good x = weaker most (AlwaysMounts lay) x (omega arith) (λ s u is one. record {
  each = λ g image.
      let told = r.told good s is in
      let m = told.1.0 in
      by m (one.each m told.0 told.1.1 told.1.2 g image);
})
  where
    by : {g : ℕ → Block} (m : Content) → RecoversTo lay g m ⊎ RecoversTo lay g (changed m cs) → (n : Content) × RecoversTo lay g n
    by m (inl a) = (m, a)
    by m (inr b) = (changed m cs, b)

pub holds_one : (lay : Layout) (v : DiskView) (good : Bool) (m n : Content) → HoldsNow lay v good m → HoldsNow lay v good n → m ≡ n
holds_one lay v good m n a b = same_content lay a.1.0.now m n a.1.2.holds (subst (λ (t : DiskState). Idle lay t.now n) (at_one v.past b.1.0 a.1.0 b.1.1 a.1.1) b.1.2).holds

was_now : (p : Past) (s u : DiskState) → IsAt p s → WasAt p (moment_of p) u → u ≡ s
was_now (Told base calls) s u is was = was ∙ ap (after_calls (synced_state (blocks_of_list base))) (take_all (length calls) calls (omega arith)) ∙ sym is
was_now (Untold n) s u none was = absurd none

-- the present moment has the content alone
pub present_one : {lay : Layout} {v : DiskView} {homes : Homes} {used : List Bool} {slots : List Slot} {capacity : ℕ} {good : Bool} → IsVault lay v homes used slots capacity good → (m n : Content) → HoldsNow lay v good m → LeavesAt lay v.past (moment_of v.past) n → n ≡ m
present_one {lay} {v} r m n holds left =
    let s = holds.1.0 in
    let told = r.told holds.0 s holds.1.1 in
    let same : left.0 ≡ s = was_now v.past s left.0 holds.1.1 left.1 in
    let g = left.2.0 in
    let image : IsCrashImage s g = subst (λ u. IsCrashImage u g) same left.2.1 in
    let rests = rests_log lay r.layout s.now g m holds.1.2 (λ i out. image.same i (told.0 i)) in
    recovers_to_one lay g n m left.2.2 (idle_recovers lay r.layout g m rests)

-- what is told is what the blocks hold
pub told_recovers : {lay at : Layout} {good : Bool} (v : DiskView) → IsLayout lay → lay ≡ at → (m : Content) → HoldsNow lay v good m → (s : DiskState) → IsAt v.past s → RecoversTo at s.now m
told_recovers {lay} {at} v layout placed m holds s is =
    let rests = subst (λ (t : DiskState). Idle lay t.now m) (at_one v.past holds.1.0 s holds.1.1 is) holds.1.2 in
    subst (λ l. RecoversTo l s.now m) placed (idle_recovers lay layout s.now m rests)

-- the layout stays where the size does
pub placed_still : {lay : Layout} {old new : ℕ} → lay ≡ layout_of old → new ≡ old → lay ≡ layout_of new
placed_still placed size = placed ∙ ap layout_of (sym size)

-- ---- answers

pub of_ok : {T E P : Type 0} (r : Result T E) → OnOk r P → is_ok r ≡ true → P
of_ok (Ok x) p is = p
of_ok (Err e) p is = absurd (cc)

pub on_ok : {T E P Q : Type 0} (r : Result T E) → OnOk r P → (is_ok r ≡ true → P → Q) → OnOk r Q
on_ok (Ok x) p f = f refl p
on_ok (Err e) p f = tt

-- what is held after a put is what the changes make of what was held before
pub put_back : {v w : DiskView} {n : ℕ} {R : DiskState → DiskState → Type 0} (lay : Layout) (old now : Index) (used : ℕ → Bool) (es : List Slot) (cs : List Change) → Planned lay old now used es cs
    → Moves v w n R → MovesBy v w (IsPut lay es) → IndexMatchesDisk lay v old
    → (n : Content) → HoldsNow lay w true n → (m : Content) × (HoldsNow lay v true m × (n ≡ changed m cs))
put_back lay old now used es cs p x e told n holds =
    let t = holds.1.0 in
    let was = told_before x t holds.1.1 in
    let s = was.0 in
    let before = told s was.1 in
    let m = before.1.0 in
    let put = e s t was.1 holds.1.1 in
    let rests = put.rests m (changed m cs) (may_put lay old now used es cs p s m before.0 before.1.1 before.1.2) in
    (m, ((refl, (s, was.1, before.1.1)), same_content lay t.now n (changed m cs) holds.1.2.holds rests.holds))

-- the keys of the index are those of the content
pub keys_told : {lay : Layout} {v : DiskView} {homes : Homes} {used : List Bool} {slots : List Slot} {capacity : ℕ} {good : Bool} → IsVault lay v homes used slots capacity good → (m : Content) → HoldsNow lay v good m → keys_of homes ≡ keys_of m
keys_told {lay} {v} {homes} r m holds = same_map key_cmp_total key_same _ _ (λ q.
    get-keys_of homes q ∙ sym (there (get homes q)) ∙ ap (option_map (λ _. tt)) (sym (page_told r m holds q holds.1.0 holds.1.1)) ∙ sym (get-keys_of m q))
  where
    there : (o : Option ℕ) → option_map (λ (p : Page). tt {0}) (page_at holds.1.0.now o) ≡ option_map (λ (h : ℕ). tt {0}) o
    there None = refl
    there (Some h) = refl

-- how many parts are free after a put
pub free_after : (old now : Homes) (cs : List Change) (parts later : ℕ) → AreRising cs → len old ≤ parts → later ≡ parts → new_keys (keys_of old) cs ≤ parts - len old → keys_of now ≡ changed_keys (keys_of old) cs
    → (later - len now) + new_keys (keys_of old) cs ≡ (parts - len old) + gone_keys (keys_of old) cs
free_after old now cs parts later rising fits same room keys =
    let sum = len-changed_keys (keys_of old) cs rising in
    let before = len-keys_of old in
    let behind = len-keys_of now in
    let count = ap len keys in
    omega (arith, sum, before, behind, count, fits, same, room)
