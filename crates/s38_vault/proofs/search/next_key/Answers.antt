use Rattle.std.proofs.Common.{◌∙◌}
use Rattle.s38_vault.proofs.KeyedLaws.{least_of, next_of}
use Rattle.s38_vault.proofs.search.next_key.Goals as goal

pub returns-in-Some : goal.returns-in-Some
returns-in-Some g c = rw c.in-Some.is (c.key_at.ensures ∙ next_of c.args.entries.now c.in-Some.key c.place_after.result c.place_after.ensures)

pub returns-in-None : goal.returns-in-None
returns-in-None g c = rw c.in-None.is (c.key_at-in-None.ensures ∙ least_of c.args.entries.now)
