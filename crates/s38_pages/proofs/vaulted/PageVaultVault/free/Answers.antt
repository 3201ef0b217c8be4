use Rattle.std.proofs.Common.{◌≡◌, ◌+◌, ◌-◌, subst, sym, arith}
use Rattle.std.specs.FinMap.{len}
use Rattle.s38_vault.specs.Directory.{keys_of}
use Rattle.s38_vault.proofs.DirectoryLaws.{len-keys_of}
use Rattle.s38_pages.specs.Index.{home_count}
use Rattle.s38_pages.specs.Vaults.{PageStore, page_holds}
use Rattle.s38_pages.proofs.VaultLemmas.{keys_told}
use Rattle.s38_pages.proofs.vaulted.PageVaultVault.free.Goals as goal

pub returns-clause-sum : goal.returns-clause-sum
returns-clause-sum g c =
    let same = len-keys_of c.self.inside.homes.values in
    subst (λ (v : PageStore). home_count v.layout - len v.homes + len (keys_of v.homes) ≡ home_count v.layout) c.self.view_is (omega (arith, c.self.invariant.vault.parts, same))

pub returns-clause-keys : goal.returns-clause-keys
returns-clause-keys g c m holds =
    subst (λ (v : PageStore). keys_of v.homes ≡ keys_of m) c.self.view_is (keys_told c.self.invariant.vault m (subst (λ (v : PageStore). page_holds v m) (sym c.self.view_is) holds))
