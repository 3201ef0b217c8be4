use Rattle.s38_pages.proofs.Watching.{goes_on, start_still}
use Rattle.std.proofs.Common.{refl}
use Rattle.s38_pages.proofs.watched.WatchedVaultVault.get.Goals as goal

pub invariant_of-self : goal.invariant_of-self
invariant_of-self g c = goes_on c.self.invariant (start_still c.self.inside.vault c.get.new.self c.get.ensures.stays refl) c.get.ensures.layout c.get.ensures.whole
