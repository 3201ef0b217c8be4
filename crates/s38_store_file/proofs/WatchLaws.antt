-- A vault that a restart or a checkpoint used: what each image of each moment holds.
use Rattle.std.proofs.Common.{◌≡◌, ℕ, ◌<◌, ◌≤◌, sym, ◌∙◌, ap, subst}
use Rattle.std.specs.Prelude.{take}
use Rattle.s38_redo_log.specs.Store.{RecoversTo}
use Rattle.s38_redo_log.specs.declared.layout.Layout.{Layout}
use Rattle.s38_checkpoint.specs.Ensuring.{IsLeft}
use Rattle.s38_disk.specs.Blocks.{DiskState}
use Rattle.s38_disk.specs.Disk.{DiskView, IsAt, moment_of}
use Rattle.s38_disk.specs.Moves.{IsSynced, Moves}
use Rattle.s38_disk.specs.declared.block.Block.{Block}
use Rattle.s38_durable_state.specs.Durable.{Durable}
use Rattle.s38_restart.specs.catalog.Groups.{removals}
use Rattle.s38_pages.proofs.VaultLemmas.{recovers_to_one}
use Rattle.s38_pages.proofs.Watching.{same_first}
use Rattle.s38_pages.specs.Mounts.{IsMounted, fewest, layout_of}
use Rattle.s38_base.specs.Faults.{Rose}
use Rattle.s38_pages.specs.Vaults.{PageStore, page_holds, page_leaves, page_view}
use Rattle.s38_pages.specs.Watched.{IsWatched, WatchedStore, watched_view}
use Rattle.s38_restart.specs.Parts.{all_parts}
use Rattle.s38_rules.specs.state.Held.{Held}
use Rattle.s38_store_file.proofs.CrashLaws.{during_both, during_run, during_watch, during_wider}
use Rattle.s38_store_file.proofs.StrayLaws.{objects_kept}
use Rattle.s38_store_file.specs.Crashes.{DuringCall, IsBetween, IsPartlyCleaned, KeepsRestarting}
use Rattle.s38_store_file.specs.Stores.{Restarts}
use Rattle.s38_vault.specs.Content.{Content, changed}
use Rattle.s38_vault.specs.Vaults.{most_changes}

-- ---- the watch

module _ {v r : PageStore} {w x : WatchedStore} (begun : w ≡ record { first = v; now = v }) (shape : (watched_view x).shape ≡ (watched_view w).shape) (is : r ≡ x.now) (watched : IsWatched x.first r) where
  -- the vault was watched from its begin on
  pub seen_from : IsWatched v r
  seen_from = subst (λ (y : PageStore). IsWatched y r) (same_first w x shape ∙ ap (λ (y : WatchedStore). y.first) begun) watched

  pub now_is : w.now ≡ v
  now_is = ap (λ (y : WatchedStore). y.now) begun

  -- what was told of the vault that was used is what was held before
  pub held_then : (m : Content) → page_holds v m → page_holds w.now m
  held_then m holds = subst (λ (y : PageStore). page_holds y m) (sym now_is) holds

  pub held_now : (m : Content) → page_holds x.now m → page_holds r m
  held_now m holds = subst (λ (y : PageStore). page_holds y m) (sym is) holds

  -- each image of each moment, by what the vault leaves then
  pub during_use : {P : (ℕ → Block) → Type 0} (m : Content) → page_holds v m → ((t : ℕ) (n : Content) (g : ℕ → Block) → (watched_view w).moment < t → t ≤ (watched_view x).moment → page_leaves x.now t n → RecoversTo r.layout g n → P g)
      → DuringCall v.disk r.disk P
  during_use m holds f = during_watch seen_from m holds (λ t n g low high left stands.
      f t n g (subst (λ (y : PageStore). moment_of y.disk.past < t) (sym now_is) low) (subst (λ (y : PageStore). t ≤ moment_of y.disk.past) is high) (subst (λ (y : PageStore). page_leaves y t n) is left) stands)

  placed_now : v.layout ≡ layout_of v.disk.size → r.layout ≡ layout_of r.disk.size
  placed_now placed = seen_from.layout ∙ placed ∙ ap layout_of (sym seen_from.moves.size)

  -- ---- a restart
  pub restart_during : v.layout ≡ layout_of v.disk.size
      → ((m : Content) → page_holds w.now m → (t : ℕ) (n : Content) → (watched_view w).moment < t → t ≤ (watched_view x).moment → page_leaves x.now t n → (count : ℕ) × (n ≡ changed m (take count (removals (all_parts m)))))
      → (m : Content) → page_holds v m → DuringCall v.disk r.disk (IsPartlyCleaned r.disk.size m)
  restart_during placed during m holds = during_use m holds (λ t n g low high left stands.
      let part = during m (held_then m holds) t n low high left in
      record {
        count = part.0;
        stands =
            subst (λ (k : Content). RecoversTo (layout_of r.disk.size) g k) part.1
            (subst (λ (l : Layout). RecoversTo l g n) (placed_now placed) stands);
      })

  -- ---- a checkpoint
  pub close_during : {d : Durable} {h : Held} → r.layout ≡ layout_of r.disk.size → v.layout.most ≡ most_changes
      → ((m : Content) → page_holds w.now m → (t : ℕ) (n : Content) → (watched_view w).moment < t → t ≤ (watched_view x).moment → page_leaves x.now t n → IsLeft (watched_view w).shape.most m d h n)
      → (m : Content) → page_holds v m → DuringCall v.disk r.disk (IsBetween r.disk.size m d h)
  close_during {d} {h} placed most during m holds =
      let many : w.now.layout.most ≡ most_changes = ap (λ (y : PageStore). y.layout.most) now_is ∙ most in
      during_use m holds (λ t n g low high left stands. record {
        content = n;
        stands = subst (λ (l : Layout). RecoversTo l g n) placed stands;
        left = subst (λ k. IsLeft k m d h n) many (during m (held_then m holds) t n low high left);
      })

  -- a fault of the vault that was used is one of the vault that is left
  pub caused : (page_view v).faults ≡ v.start → Rose (watched_view w).faults (watched_view x).faults → Rose r.start (page_view r).faults
  caused none rose =
      let before : (page_view w.now).faults ≡ r.start = ap (λ (y : PageStore). (page_view y).faults) now_is ∙ none ∙ sym seen_from.start in
      let behind : (page_view x.now).faults ≡ (page_view r).faults = ap (λ (y : PageStore). (page_view y).faults) (sym is) in
      subst (λ n. Rose n (page_view r).faults) before (subst (Rose (page_view w.now).faults) behind rose)

-- the same of a disk that was given back
pub given_back : {v : DiskView} (P : ℕ → (ℕ → Block) → Type 0) (a b : DiskView) → b ≡ a → DuringCall v a (P a.size) → DuringCall v b (P b.size)
given_back {v} P a b same = subst (λ (y : DiskView). DuringCall v y (P y.size)) (sym same)

-- ---- a store that is opened

still_restarts : {old new : ℕ} {f g : ℕ → Block} {h : Held} → new ≡ old → (r : Restarts old f h) → IsPartlyCleaned new r.content g → Restarts new g h
still_restarts {h = h} sized r p = record {
  large = subst (λ n. fewest ≤ n) (sym sized) r.large;
  content = changed r.content (take p.count (removals (all_parts r.content)));
  stands = p.stands;
  objects = objects_kept r.content p.count h r.objects;
}

mounted_during : {disk new : DiskView} {most : ℕ} → Moves disk new most (IsMounted (layout_of disk.size)) → (s : DiskState) → IsAt disk.past s → IsSynced s → (m : Content) → RecoversTo (layout_of disk.size) s.now m → (size : ℕ) → size ≡ disk.size
    → DuringCall disk new (IsPartlyCleaned size m)
mounted_during moves s is rest m stands size sized = during_run moves s is (λ u h g image. record {
  count = 0;
  stands = subst (λ n. RecoversTo (layout_of n) g m) (sym sized) (h.each m rest stands g image);
})

-- a store that is not mounted
pub refused_during : {disk new : DiskView} {most : ℕ} → Moves disk new most (IsMounted (layout_of disk.size)) → KeepsRestarting disk new
refused_during {disk} {new} moves = record {
  content = λ s is rest m stands. mounted_during moves s is rest m stands new.size moves.size;
  objects = λ s is rest h r. during_wider (mounted_during moves s is rest r.content r.stands new.size moves.size) (λ g p. still_restarts moves.size r p);
}

-- a store that was mounted, and restarted or refused
pub opened_during : {disk new : DiskView} (v : PageStore) {most : ℕ} → Moves disk v.disk most (IsMounted (layout_of disk.size)) → ((s : DiskState) → IsAt disk.past s → (m : Content) × (RecoversTo (layout_of disk.size) s.now m × page_holds v m))
    → ((m : Content) → page_holds v m → DuringCall v.disk new (IsPartlyCleaned new.size m)) → KeepsRestarting disk new
opened_during {disk} {new} v moves content after = record {
  content = λ s is rest m stands. by s is rest m stands;
  objects = λ s is rest h r. let x = by s is rest r.content r.stands in during_wider x (λ g p. still_restarts x.size r p);
}
  where
    by : (s : DiskState) → IsAt disk.past s → IsSynced s → (m : Content) → RecoversTo (layout_of disk.size) s.now m → DuringCall disk new (IsPartlyCleaned new.size m)
    by s is rest m stands =
        let was = content s is in
        let one : was.0 ≡ m = recovers_to_one (layout_of disk.size) s.now was.0 m was.1.0 stands in
        let later = after m (subst (page_holds v) one was.1.1) in
        during_both (mounted_during moves s is rest m stands new.size (later.size ∙ moves.size)) later
