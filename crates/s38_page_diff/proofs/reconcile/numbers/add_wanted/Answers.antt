use Rattle.std.proofs.Common.{◌≡◌, ◌++◌, ap, subst}
use Rattle.std.specs.Prelude.{Option}
use Rattle.std.specs.FinMap.{get}
use Rattle.s38_base.specs.declared.page.Key.{Key}
use Rattle.s38_base.specs.declared.page.Page.{Page}
use Rattle.s38_page_diff.specs.Differences.{HavePages, differences}
use Rattle.s38_page_diff.specs.declared.range.PartRange.{PartRange}
use Rattle.s38_vault.specs.Vaults.{VaultView}
use Rattle.s38_page_diff.proofs.reconcile.SoFarLaws.{at_by}
use Rattle.s38_page_diff.proofs.reconcile.numbers.add_wanted.Goals as goal

pub returns-clause-at : goal.returns-clause-at
returns-clause-at g c =
    let V = g.V.Vault in
    let old = c.args.into.now.items in
    let between = c.add_differences.new.into.items in
    let wanted = c.args.wanted.now in
    let keys = (V.view c.args.vault.now).keys in
    at_by keys (V.view c.add_differences.new.vault).keys (V.holds c.args.vault.now) c.args.number wanted old between c.add_last.new.into.items
    (ap (λ (v : VaultView). v.keys) c.add_differences.ensures.stays) c.free-free.ensures.keys c.requires.wanted
    (λ m h. subst (λ (r : PartRange). between ≡ old ++ differences (get m) r wanted) c.short_range.ensures (c.in_ok-add_differences.ensures.told m h))
    (subst (λ (r : PartRange). (pages : Key → Option Page) × (HavePages keys pages × (between ≡ old ++ differences pages r wanted))) c.short_range.ensures c.in_ok-add_differences.ensures.read)
    c.in_ok-add_last.ensures
