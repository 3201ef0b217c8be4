use Rattle.std.proofs.Common.{subst, sym, true}
use Rattle.s38_redo_log.specs.declared.layout.Layout.{Layout}
use Rattle.s38_pages.specs.Vaults.{HoldsNow, PageStore, page_holds}
use Rattle.s38_pages.proofs.page_vault.PageVault.mount.Goals as goal

pub returns-in-Ok-clause-content : goal.returns-in-Ok-clause-content
returns-in-Ok-clause-content g c s is =
    let r = c.in-Ok.ensures.content s is in
    (r.0, (r.1.0, subst (λ (v : PageStore). page_holds v r.0) (sym c.over.ensures) (subst (λ (l : Layout). HoldsNow l (g.D.Disk.view c.open.new.disk) true r.0) (sym c.in-Ok.ensures.layout) r.1.1)))
