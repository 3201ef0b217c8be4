-- What a crash leaves while calls go on, one after another.
use Rattle.std.proofs.Common.{◌≡◌, ◌⊎◌, ℕ, ◌<◌, ◌≤◌, true, false, List, [], ◌∷◌, inl, inr, length-append, refl, sym, ◌∙◌, ap, subst, arith}
use Rattle.std.proofs.lemmas.Bool.Decides.{nat_tests}
use Rattle.std.specs.Prelude.{nat_le}
use Rattle.s38_redo_log.specs.Coding.{is_store_label}
use Rattle.s38_redo_log.specs.Store.{RecoversTo}
use Rattle.s38_redo_log.specs.declared.layout.Layout.{Layout}
use Rattle.s38_checkpoint.specs.Closing.{content_of}
use Rattle.s38_disk.proofs.Runs.{adding-nil}
use Rattle.s38_disk.proofs.Times.{images_same, moments_of}
use Rattle.s38_disk.specs.Blocks.{DiskState, IsCrashImage}
use Rattle.s38_disk.specs.Disk.{DiskView, IsAt, Past, adding, moment_of}
use Rattle.s38_disk.specs.Disk.Past.{Told, Untold}
use Rattle.s38_disk.specs.Moves.{IsSynced, Moves}
use Rattle.s38_disk.specs.declared.block.Block.{Block}
use Rattle.s38_disk.specs.declared.block.Call.{Call}
use Rattle.s38_pages.specs.Formats.{IsMaking}
use Rattle.s38_pages.specs.Mounts.{layout_of}
use Rattle.s38_pages.specs.Vaults.{PageStore, page_holds, page_leaves}
use Rattle.s38_pages.specs.Watched.{IsWatched}
use Rattle.s38_store_file.specs.Crashes.{DuringCall, GoesOn, IsNoneOrInstalled}
use Rattle.s38_store_file.specs.Stores.{installed_store}
use Rattle.s38_vault.specs.Content.{Content}

at_most : (a b : ℕ) → nat_le a b ≡ true → a ≤ b
at_most a b h = grind (arith, nat_tests)

beyond : (a b : ℕ) → nat_le a b ≡ false → b < a
beyond a b h = grind (arith, nat_tests)

-- ---- moments

grows : (p : Past) (cs : List Call) → moment_of p ≤ moment_of (adding cs p)
grows (Told base calls) cs = omega (arith, length-append calls cs)
grows (Untold n) cs = omega arith

later_moment : {v w : DiskView} {most : ℕ} {R : DiskState → DiskState → Type 0} → Moves v w most R → moment_of v.past ≤ moment_of w.past
later_moment {v} x = subst (λ p. moment_of v.past ≤ moment_of p) (sym x.past) (grows v.past x.calls)

-- ---- one call after another

pub during_none : (v : DiskView) (P : (ℕ → Block) → Type 0) → DuringCall v v P
during_none v P = record {
  size = refl;
  later = omega arith;
  before = λ t g le. (λ h. h, λ h. h);
  each = λ t g low high left. absurd (omega (arith, low, high));
}

pub during_wider : {v w : DiskView} {P Q : (ℕ → Block) → Type 0} → DuringCall v w P → ((g : ℕ → Block) → P g → Q g) → DuringCall v w Q
during_wider x f = record { size = x.size; later = x.later; before = x.before; each = λ t g low high left. f g (x.each t g low high left) }

pub during_both : {u v w : DiskView} {P : (ℕ → Block) → Type 0} → DuringCall u v P → DuringCall v w P → DuringCall u w P
during_both {u} {v} {w} {P} x y = record {
  size = y.size ∙ x.size;
  later = omega (arith, x.later, y.later);
  before = λ t g le.
      let there = x.before t g le in
      let here = y.before t g (omega (arith, le, x.later)) in
      (λ h. here.0 (there.0 h), λ h. there.1 (here.1 h));
  each = λ t g low high left.
      elim (nat_le t (moment_of v.past)) as (λ b. nat_le t (moment_of v.past) ≡ b → P g) [
        | true ↦ λ q. let early = at_most t (moment_of v.past) q in x.each t g low early ((y.before t g early).1 left)
        | false ↦ λ q. y.each t g (beyond t (moment_of v.past) q) high left
      ] refl;
}

-- a run of calls, of which each leaves such images
pub during_run : {v w : DiskView} {most : ℕ} {R : DiskState → DiskState → Type 0} {P : (ℕ → Block) → Type 0} → Moves v w most R → (s : DiskState) → IsAt v.past s → ((u : DiskState) → R s u → (g : ℕ → Block) → IsCrashImage u g → P g) → DuringCall v w P
during_run {v} {w} x s is f = record {
  size = x.size;
  later = later_moment x;
  before = λ t g le. images_same x t g le;
  each = λ t g low high left. f left.0 (moments_of x s is t left.0 low high left.1.0) g left.1.1;
}

-- ---- a disk that goes on

pub goes_by : {v w : DiskView} {most : ℕ} {R : DiskState → DiskState → Type 0} → Moves v w most R → GoesOn v w
goes_by x = record { size = x.size; later = later_moment x; before = λ t g le. images_same x t g le }

pub goes_then : {u v w : DiskView} → GoesOn u v → GoesOn v w → GoesOn u w
goes_then x y = record {
  size = y.size ∙ x.size;
  later = omega (arith, x.later, y.later);
  before = λ t g le.
      let there = x.before t g le in
      let here = y.before t g (omega (arith, le, x.later)) in
      (λ h. here.0 (there.0 h), λ h. there.1 (here.1 h));
}

-- ---- a store that is made

pub making : {v w x : DiskView} {lay : Layout} {most : ℕ} {m : Content} → Moves v w most (IsMaking lay m) → x ≡ w → lay ≡ layout_of x.size → m ≡ content_of installed_store → (s : DiskState) → IsAt v.past s → IsSynced s
    → DuringCall v x (IsNoneOrInstalled x.size)
making {v} {w} {x} {lay} {m = m} moves same placed whole s is rest =
    subst (λ (y : DiskView). DuringCall v y (IsNoneOrInstalled x.size)) (sym same) (during_run moves s is (λ u h g image. by g (h.each rest g image)))
  where
    by : (g : ℕ → Block) → (is_store_label (g 0) ≡ false) ⊎ RecoversTo lay g m → IsNoneOrInstalled x.size g
    by g (inl none) = inl none
    by g (inr stands) = inr (subst (λ (n : Content). RecoversTo (layout_of x.size) g n) whole (subst (λ (l : Layout). RecoversTo l g m) placed stands))

-- ---- a vault that is watched

-- each image holds a content that the vault leaves
pub during_watch : {v w : PageStore} {P : (ℕ → Block) → Type 0} → IsWatched v w → (m : Content) → page_holds v m
    → ((t : ℕ) (n : Content) (g : ℕ → Block) → moment_of v.disk.past < t → t ≤ moment_of w.disk.past → page_leaves w t n → RecoversTo w.layout g n → P g) → DuringCall v.disk w.disk P
during_watch {v} {w} x m holds f = record {
  size = x.moves.size;
  later = later_moment x.moves;
  before = λ t g le. images_same x.moves t g le;
  each = λ t g low high left.
      let s = holds.1.0 in
      let whole = (moments_of x.moves s holds.1.1 t left.0 low high left.1.0).each g left.1.1 in
      let stands = subst (λ (l : Layout). RecoversTo l g whole.0) (sym x.layout) whole.1 in
      f t whole.0 g low high (left.0, left.1.0, (g, left.1.1, stands)) stands;
}
