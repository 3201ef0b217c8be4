use Rattle.std.proofs.Common.{ap, sym, ◌∙◌}
use Rattle.std.specs.FinMap as map
use Rattle.std.specs.Prelude.{is_some}
use Rattle.s38_vault.proofs.DirectoryLaws.{contains-keys_of}
use Rattle.s38_vault.proofs.map_vault.MapVaultVault.get.Goals as goal

pub returns-clause-there : goal.returns-clause-there
returns-clause-there c =
    let key = c.args.key in
    ap is_some c.get.ensures ∙ ap (λ s. map.contains_key s.pages key) c.self.view_is ∙ sym (contains-keys_of c.args.self.now.pages key)
