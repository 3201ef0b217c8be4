use Rattle.std.proofs.Common.{◌∙◌}
use Rattle.s38_vault.proofs.KeyedLaws.{found_at}
use Rattle.s38_vault.proofs.search.find.Goals as goal

pub returns : goal.returns
returns g c = c.value_at.ensures ∙ found_at c.args.entries.now c.args.key c.place.result c.requires c.place.ensures.value
