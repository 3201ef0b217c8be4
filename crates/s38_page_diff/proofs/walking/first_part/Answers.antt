use Rattle.std.proofs.Common.{◌≡◌, ◌≤◌, Some, arith, sym, ◌∙◌, true}
use Rattle.s38_vault.specs.Directory.{is_after, next_key}
use Rattle.s38_vault.proofs.NextLaws.{next_there}
use Rattle.s38_page_diff.proofs.WalkLaws.{next_after, none_before, none_past, same_contains, key_at}
use Rattle.s38_page_diff.proofs.walking.first_part.Goals as goal
use Rattle.s38_page_diff.proofs.walking.first_part.Goals.{else-key-range-via-then-key-range+else-key-range-2, else-key-range-via-else-key-range}

pub returns-in_err-key-clause-none : goal.returns-in_err-key-clause-none
returns-in_err-key-clause-none g c = λ part low high.
    let q = key_at c.args.range.object part in
    none_past (g.V.Vault.view c.args.vault.now).keys c.key_before.result q (sym c.next_key.ensures.next ∙ c.in_err-key.was)
    (c.key_before.ensures.from q (omega arith) (λ _. low))

pub returns-then-key-range-2-clause-there : goal.returns-then-key-range-2-clause-there
returns-then-key-range-2-clause-there g c =
    let keys = (g.V.Vault.view c.args.vault.now).keys in
    let found : next_key keys c.key_before.result ≡ Some c.in_ok-key.key = sym c.next_key.ensures.next ∙ c.in_ok-key.was in
    same_contains keys c.in_ok-key.key c.args.range.object c.if-key-range.true (next_there keys c.key_before.result c.in_ok-key.key found)

pub returns-then-key-range-2-clause-in_range : goal.returns-then-key-range-2-clause-in_range
returns-then-key-range-2-clause-in_range g c =
    let keys = (g.V.Vault.view c.args.vault.now).keys in
    let found : next_key keys c.key_before.result ≡ Some c.in_ok-key.key = sym c.next_key.ensures.next ∙ c.in_ok-key.was in
    (c.key_before.ensures.part c.in_ok-key.key (next_after keys c.key_before.result c.in_ok-key.key found) c.if-key-range.true, c.if-key-range-2.true)

pub returns-then-key-range-2-clause-none : goal.returns-then-key-range-2-clause-none
returns-then-key-range-2-clause-none g c = λ part low high.
    let keys = (g.V.Vault.view c.args.vault.now).keys in
    let found : next_key keys c.key_before.result ≡ Some c.in_ok-key.key = sym c.next_key.ensures.next ∙ c.in_ok-key.was in
    let q = key_at c.args.range.object part in
    none_before keys c.key_before.result c.in_ok-key.key q found (c.key_before.ensures.from q (omega arith) (λ _. low)) (omega arith) (λ _. high)

pub returns-else-key-range-clause-none : goal.returns-else-key-range-clause-none
returns-else-key-range-clause-none g c = λ part low high.
    let keys = (g.V.Vault.view c.args.vault.now).keys in
    let key = c.in_ok-key.key in
    let found : next_key keys c.key_before.result ≡ Some key = sym c.next_key.ensures.next ∙ c.in_ok-key.was in
    let q = key_at c.args.range.object part in
    let after = next_after keys c.key_before.result key found in
    let object : c.args.range.object ≤ key.object = c.key_before.ensures.object key (omega arith) after in
    let passes : is_after c.key_before.result q ≡ true = c.key_before.ensures.from q (omega arith) (λ _. low) in
    elim c.else-key-range.branch [
      | else-key-range-via-then-key-range+else-key-range-2 w ↦ none_before keys c.key_before.result key q found passes object (λ _. omega arith)
      | else-key-range-via-else-key-range w ↦ none_before keys c.key_before.result key q found passes object (λ same. absurd (w.if-key-range.false same))
    ]
