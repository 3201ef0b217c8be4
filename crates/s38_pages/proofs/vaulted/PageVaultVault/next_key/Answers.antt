use Rattle.std.proofs.Common.{ap, sym, ◌∙◌}
use Rattle.std.specs.FinMap as map
use Rattle.s38_vault.specs.Directory.{keys_of, next_among}
use Rattle.s38_vault.proofs.DirectoryLaws.{keys-keys_of}
use Rattle.s38_vault.proofs.NextLaws.{next_named}
use Rattle.s38_pages.specs.Vaults.{PageStore}
use Rattle.s38_pages.proofs.vaulted.PageVaultVault.next_key.Goals as goal

pub returns-clause-next : goal.returns-clause-next
returns-clause-next g c =
    let after = c.args.after in
    c.next_key.ensures ∙ ap (λ (s : PageStore). next_among (map.keys s.homes) after) c.self.view_is
    ∙ ap (λ ks. next_among ks after) (sym (keys-keys_of c.args.self.now.homes))

pub returns-clause-object : goal.returns-clause-object
returns-clause-object g c =
    let after = c.args.after in
    let homes = c.self.inside.homes.values in
    next_named (keys_of homes) after c.next_key.result c.self.invariant.vault.objects
    (c.next_key.ensures ∙ ap (λ ks. next_among ks after) (sym (keys-keys_of homes)))
