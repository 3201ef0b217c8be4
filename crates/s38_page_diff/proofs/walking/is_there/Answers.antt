use Rattle.std.proofs.Common.{◌≡◌, ◌≤◌, Some, None, arith, sym, ◌∙◌}
use Rattle.s38_vault.specs.Directory.{next_key}
use Rattle.s38_page_diff.proofs.WalkLaws.{next_after, none_past, there_is}
use Rattle.s38_page_diff.proofs.walking.is_there.Goals as goal

pub returns-in-Some : goal.returns-in-Some
returns-in-Some g c =
    let keys = (g.V.Vault.view c.args.vault.now).keys in
    let key = c.args.key in
    let next = c.in-Some.next in
    let found : next_key keys c.key_before.result ≡ Some next = sym c.next_key.ensures.next ∙ c.in-Some.is in
    let after = next_after keys c.key_before.result next found in
    let object : key.object ≤ next.object = c.key_before.ensures.object next (omega arith) after in
    c.eq.ensures
    ∙ there_is keys c.key_before.result next key found (c.key_before.ensures.from key (omega arith) (λ _. omega arith)) object (c.key_before.ensures.part next after)

pub returns-in-None : goal.returns-in-None
returns-in-None g c =
    let keys = (g.V.Vault.view c.args.vault.now).keys in
    let key = c.args.key in
    let none : next_key keys c.key_before.result ≡ None = sym c.next_key.ensures.next ∙ c.in-None.is in
    sym (none_past keys c.key_before.result key none (c.key_before.ensures.from key (omega arith) (λ _. omega arith)))
