use Rattle.std.proofs.Common.{subst, sym}
use Rattle.s38_disk.specs.Disk.{moment_of}
use Rattle.s38_pages.specs.Vaults.{PageStore, page_holds, page_leaves}
use Rattle.s38_pages.proofs.VaultLemmas.{holds_one, present_one}
use Rattle.s38_pages.proofs.vaulted.PageVaultVault.moment.Goals as goal

pub returns-clause-one : goal.returns-clause-one
returns-clause-one g c m n a b = holds_one c.args.self.now.layout c.args.self.now.disk c.args.self.now.good m n a b

pub returns-clause-present : goal.returns-clause-present
returns-clause-present g c m n holds left =
    present_one c.self.invariant.vault m n (subst (λ (v : PageStore). page_holds v m) (sym c.self.view_is) holds)
    (subst (λ (v : PageStore). page_leaves v (moment_of v.disk.past) n) (sym c.self.view_is) left)
