use Rattle.std.proofs.Common.{◌≡◌, arith, sym, ◌∙◌}
use Rattle.std.specs.Prelude.{Some}
use Rattle.s38_vault.specs.Directory.{next_key}
use Rattle.s38_page_diff.proofs.WalkLaws.{next_after, none_past}
use Rattle.s38_page_diff.proofs.reconcile.KeyLaws.{after_above, named_by, none_lower, passes_by, passes_on}
use Rattle.s38_page_diff.proofs.reconcile.walking.next_number.Goals as goal

pub returns-in_err-key-clause-none : goal.returns-in_err-key-clause-none
returns-in_err-key-clause-none g c = λ is key behind low.
    none_past (g.V.Vault.view c.args.vault.now).keys c.last_key.result key (sym c.next_key.ensures.next ∙ c.in_err-key.was) (passes_by c.last_key.result c.args.done key c.last_key.ensures behind)

pub returns-in_err-key-clause-rest : goal.returns-in_err-key-clause-rest
returns-in_err-key-clause-rest g c = λ most is key behind.
    none_past (g.V.Vault.view c.args.vault.now).keys c.last_key.result key (sym c.next_key.ensures.next ∙ c.in_err-key.was) (passes_by c.last_key.result c.args.done key c.last_key.ensures behind)

pub returns-then-key-upto-clause-behind : goal.returns-then-key-upto-clause-behind
returns-then-key-upto-clause-behind g c =
    let keys = (g.V.Vault.view c.args.vault.now).keys in
    let key = c.in_ok-key.key in
    let found : next_key keys c.last_key.result ≡ Some key = sym c.next_key.ensures.next ∙ c.in_ok-key.was in
    after_above c.args.done key (named_by c.next_key.result key c.in_ok-key.was c.next_key.ensures.object) (omega arith)
    (passes_on c.last_key.result c.args.done key c.last_key.ensures (next_after keys c.last_key.result key found))

pub returns-then-key-upto-clause-before : goal.returns-then-key-upto-clause-before
returns-then-key-upto-clause-before g c = λ q behind low.
    let keys = (g.V.Vault.view c.args.vault.now).keys in
    let key = c.in_ok-key.key in
    let found : next_key keys c.last_key.result ≡ Some key = sym c.next_key.ensures.next ∙ c.in_ok-key.was in
    none_lower keys c.last_key.result key q found (passes_by c.last_key.result c.args.done q c.last_key.ensures behind) low

pub returns-else-key-upto-clause-none : goal.returns-else-key-upto-clause-none
returns-else-key-upto-clause-none g c = λ is q behind low.
    let keys = (g.V.Vault.view c.args.vault.now).keys in
    let key = c.in_ok-key.key in
    let found : next_key keys c.last_key.result ≡ Some key = sym c.next_key.ensures.next ∙ c.in_ok-key.was in
    none_lower keys c.last_key.result key q found (passes_by c.last_key.result c.args.done q c.last_key.ensures behind) (omega arith)
