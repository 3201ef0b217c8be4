use Rattle.s38_vault.proofs.KeyedLaws.{none_kept}
use Rattle.s38_vault.proofs.keyed.Keyed.new.Goals as goal

pub returns : goal.returns
returns g c = none_kept c.new.result.items _ _ c.new.ensures.items c.new.ensures.capacity
