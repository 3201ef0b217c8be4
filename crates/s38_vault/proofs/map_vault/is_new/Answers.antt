use Rattle.std.proofs.Common.{sym, ◌∙◌}
use Rattle.s38_vault.proofs.DirectoryLaws.{new_by}
use Rattle.s38_vault.proofs.map_vault.is_new.Goals as goal

pub returns-then-is_some : goal.returns-then-is_some
returns-then-is_some c = new_by c.args.pages.now.values c.args.change.now c.contains_key.result (sym c.is_some.ensures ∙ c.if-is_some.true) c.contains_key.ensures
