use Rattle.std.proofs.Common.{◌≤◌, arith, subst}
use Rattle.std.specs.FinMap as map
use Rattle.s38_vault.specs.MapVaults.{MapStore}
use Rattle.s38_vault.proofs.DirectoryLaws.{len-keys_of}
use Rattle.s38_vault.proofs.map_vault.MapVaultVault.free.Goals as goal

pub returns-clause-sum : goal.returns-clause-sum
returns-clause-sum c =
    let fits = subst (λ (s : MapStore). map.len s.pages ≤ s.parts) c.self.view_is c.self.invariant.fits in
    let same = len-keys_of c.args.self.now.pages in
    omega arith
