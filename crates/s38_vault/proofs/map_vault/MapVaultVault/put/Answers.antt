use Rattle.std.proofs.Common.{ap, refl, sym, ◌∙◌}
use Rattle.s38_vault.specs.Directory.{keys_of}
use Rattle.s38_vault.proofs.DirectoryLaws.{keys_of-changed}
use Rattle.s38_vault.proofs.map_vault.MapVaultVault.put.Goals as goal

pub returns-in-Ok-clause-told : goal.returns-in-Ok-clause-told
returns-in-Ok-clause-told c = λ n e. (c.args.self.now.pages, (refl, sym e ∙ c.in-Ok.ensures.pages))

pub returns-in-Ok-clause-keys : goal.returns-in-Ok-clause-keys
returns-in-Ok-clause-keys c = ap keys_of c.in-Ok.ensures.pages ∙ keys_of-changed c.args.self.now.pages c.args.changes.now
