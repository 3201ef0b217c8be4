-- A page vault that is watched.
use Rattle.std.proofs.Common.{◌≡◌, ℕ, zero, suc, ◌+◌, ◌<◌, ◌≤◌, ap, refl, sym, ◌∙◌, subst, arith}
use base.Stored.{Gv}
use base.Stored.Gv.{gnil, gnum, gcons}
use Rattle.s38_disk.specs.Disk.{DiskView}
use Rattle.s38_disk.specs.Moves.{Moves}
use Rattle.s38_disk.proofs.Runs.{joins, same_past, stays}
use Rattle.s38_vault.specs.Vaults.{VaultShape, VaultView}
use Rattle.s38_redo_log.specs.declared.layout.Layout.{Layout}
use Rattle.s38_pages.specs.Stored.{store_code}
use Rattle.s38_pages.specs.Vaults.{AlwaysMounts, PageStore, page_view}
use Rattle.s38_pages.specs.Watched.{IsWatched, WatchedStore, paired, store_number, tree_number, watched_view}

-- ---- one number for two

same_pair : (a b c d : ℕ) → paired a b ≡ paired c d → (a ≡ c) × (b ≡ d)
unfolding paired
same_pair zero b zero d e = (refl, omega (arith, e))
same_pair zero b (suc c) d e = absurd (omega (arith, e))
same_pair (suc a) b zero d e = absurd (omega (arith, e))
same_pair (suc a) b (suc c) d e = let rest = same_pair a b c d (omega (arith, e)) in (ap suc rest.0, rest.1)

pair_above : (a b : ℕ) → 0 < paired a b
unfolding paired
pair_above zero b = omega arith
pair_above (suc a) b = let h = pair_above a b in omega (arith, h)

not_nothing : (a b : ℕ) → 0 ≡ paired a b → ⊥
not_nothing a b e = let h = pair_above a b in omega (arith, h, e)

same_tree : (x y : Gv) → tree_number x ≡ tree_number y → x ≡ y
unfolding tree_number
same_tree gnil gnil e = refl
same_tree gnil (gnum n) e = absurd (not_nothing 0 n e)
same_tree gnil (gcons a b) e = absurd (not_nothing _ _ e)
same_tree (gnum n) gnil e = absurd (not_nothing 0 n (sym e))
same_tree (gnum n) (gnum m) e = ap gnum (same_pair 0 n 0 m e).1
same_tree (gnum n) (gcons a b) e = let h = (same_pair 0 n _ _ e).0 in absurd (omega (arith, h))
same_tree (gcons a b) gnil e = absurd (not_nothing _ _ (sym e))
same_tree (gcons a b) (gnum m) e = let h = (same_pair _ _ 0 m e).0 in absurd (omega (arith, h))
same_tree (gcons a b) (gcons c d) e =
    let both = same_pair _ _ _ _ e in
    let front = same_tree a c (omega (arith, both.0)) in
    let back = same_tree b d both.1 in
    λ i. gcons (front i) (back i)

same_store : (v w : PageStore) → store_number v ≡ store_number w → v ≡ w
unfolding store_number
same_store v w e = store_code.inj v w (same_tree _ _ e)

-- what uses a watched vault as a vault leaves it the one that it was
pub same_first : (w x : WatchedStore) → (watched_view x).shape ≡ (watched_view w).shape → x.first ≡ w.first
same_first w x e = same_store x.first w.first (ap (λ (s : VaultShape). s.start) e)

-- ---- the watch goes on

pub begins : (v : PageStore) → IsWatched v v
begins v = record { start = refl; layout = refl; most = 0; moves = stays v.disk (AlwaysMounts v.layout) }

pub goes_on : {first v w : PageStore} {most : ℕ} → IsWatched first v → w.start ≡ v.start → w.layout ≡ v.layout → Moves v.disk w.disk most (AlwaysMounts v.layout) → IsWatched first w
goes_on {first} {v} {w} {most} x start layout moves = record {
  start = start ∙ x.start;
  layout = layout ∙ x.layout;
  most = x.most + most;
  moves = joins (AlwaysMounts first.layout) x.moves (subst (λ (l : Layout). Moves v.disk w.disk most (AlwaysMounts l)) x.layout moves) (λ s u is h. record { each = h.each }) (λ s t u is at h. record { each = h.each });
}

pub start_of : (v w : PageStore) → (page_view w).shape ≡ (page_view v).shape → w.start ≡ v.start
start_of v w e = ap (λ (s : VaultShape). s.start) e

pub start_still : (v w : PageStore) {new : VaultView} → page_view w ≡ new → new.shape ≡ (page_view v).shape → w.start ≡ v.start
start_still v w is e = ap (λ (x : VaultView). x.shape.start) is ∙ ap (λ (s : VaultShape). s.start) e

-- a vault that was only read; what contracts see of it is what it keeps
pub read_only : {v w : PageStore} {x : DiskView} → v ≡ w → x.size ≡ v.disk.size → v.disk.faults ≤ x.faults → x.past ≡ v.disk.past → Moves w.disk x 0 (AlwaysMounts w.layout)
read_only {v} {w} {x} same size later past = subst (λ (y : PageStore). Moves y.disk x 0 (AlwaysMounts y.layout)) same (same_past v.disk x (AlwaysMounts v.layout) size later past)
