use Rattle.std.proofs.Common.{subst, sym, ap, ◌∙◌}
use Rattle.s38_pages.specs.Vaults.{PageStore, page_holds}
use Rattle.s38_pages.proofs.VaultLemmas.{told_recovers}
use Rattle.s38_pages.proofs.page_vault.PageVault.release.Goals as goal

pub returns-clause-settled : goal.returns-clause-settled
returns-clause-settled g c good s is =
    (c.self.invariant.vault.told (ap (λ (v : PageStore). v.good) c.self.view_is ∙ good) s is).0

pub returns-clause-stands : goal.returns-clause-stands
returns-clause-stands g c m holds s is =
    told_recovers (g.D.Disk.view c.self.inside.disk) c.self.invariant.vault.layout c.self.invariant.placed m (subst (λ (v : PageStore). page_holds v m) (sym c.self.view_is) holds) s is
