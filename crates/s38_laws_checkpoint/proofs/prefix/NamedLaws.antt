-- A store has no page of object 0: a home without an object is free.
use Rattle.std.proofs.Common.{◌≡◌, ◌∙◌, ℕ, ◌≤◌, ◌==◌, true, not, refl, sym, ap, arith}
use Rattle.std.proofs.lemmas.Bool.Decides.{nat_tests}
use Rattle.std.specs.FinMap.{get}
use Rattle.std.specs.Prelude.{None, Option, Some, is_some}
use Rattle.s38_base.specs.declared.page.Key.{Key}
use Rattle.s38_base.specs.declared.page.Page.{Page}
use Rattle.s38_redo_log.specs.Store.{RecoversTo}
use Rattle.s38_redo_log.specs.declared.layout.Layout.{Layout}
use Rattle.s38_disk.specs.declared.block.Block.{Block}
use Rattle.s38_page_diff.proofs.WantedLaws.{pages_held}
use Rattle.s38_vault.specs.Content.{Content}
use Rattle.s38_vault.specs.Directory.{NameObjects, keys_of}

from_one : (n : ℕ) → not (n == 0) ≡ true → 1 ≤ n
from_one n used = grind (arith, nat_tests)

pub store_names : (lay : Layout) (f : ℕ → Block) (m : Content) → RecoversTo lay f m → NameObjects (keys_of m)
store_names lay f m stands key there = by (get m key) refl (pages_held (keys_of m) m refl key ∙ there)
  where
    by : (page : Option Page) → get m key ≡ page → is_some page ≡ true → 1 ≤ key.object
    by None is some = absurd (cc)
    by (Some page) is some =
        let home = stands.holds.found key page is in
        from_one key.object (ap (λ (k : Key). not (k.object == 0)) (sym home.3) ∙ home.2)
