use Rattle.std.proofs.Common.{subst, sym}
use Rattle.s38_pages.proofs.Watching.{begins}
use Rattle.s38_pages.specs.Vaults.{PageStore}
use Rattle.s38_pages.specs.Watched.{IsWatched}
use Rattle.s38_pages.proofs.watched.WatchedVault.of.Goals as goal

pub invariant_of-result : goal.invariant_of-result
invariant_of-result g c = subst (λ (v : PageStore). IsWatched v c.args.vault) (sym c.of-first.ensures) (begins c.args.vault)
