use Rattle.std.proofs.Common.{ap, sym, ◌∙◌}
use Rattle.std.specs.FinMap as map
use Rattle.s38_vault.specs.Directory.{keys_of, next_among}
use Rattle.s38_vault.proofs.DirectoryLaws.{keys-keys_of}
use Rattle.s38_vault.proofs.NextLaws.{next_named}
use Rattle.s38_vault.proofs.map_vault.MapVaultVault.next_key.Goals as goal

pub returns-clause-next : goal.returns-clause-next
returns-clause-next c =
    let after = c.args.after in
    c.next_key.ensures ∙ ap (λ s. next_among (map.keys s.pages) after) c.self.view_is
    ∙ ap (λ ks. next_among ks after) (sym (keys-keys_of c.args.self.now.pages))

pub returns-clause-object : goal.returns-clause-object
returns-clause-object c =
    let after = c.args.after in
    let pages = c.self.inside.pages.values in
    next_named (keys_of pages) after c.next_key.result c.self.invariant.objects
    (c.next_key.ensures ∙ ap (λ ks. next_among ks after) (sym (keys-keys_of pages)))
