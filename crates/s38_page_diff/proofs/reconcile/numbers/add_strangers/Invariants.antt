use Rattle.std.proofs.Common.{◌≡◌, ◌<◌, ◌≤◌, ◌-◌, ◌++◌, ℕ, List, []}
use Rattle.s38_base.specs.declared.page.Change.{Change}
use Rattle.s38_page_diff.specs.reconcile.Walking.{AreFineTo, AreSoFar}
use Rattle.s38_page_diff.proofs.reconcile.numbers.add_strangers.Given as goal

-- all changes up to the last number are known
abbrev pub invariant-loop-number : goal.invariant-loop-number
invariant-loop-number g l = record {
  low : l.fn.done ≤ l.last;
  high : l.last ≤ l.fn.upto;
  so_far : (wants : ℕ → List Change) → ((n : ℕ) → l.fn.done < n → n ≤ l.fn.upto → wants n ≡ []) → AreSoFar (g.V.Vault.view l.vault).keys (g.V.Vault.holds l.vault) wants l.fn.done l.fn.into.items → AreSoFar (g.V.Vault.view l.vault).keys (g.V.Vault.holds l.vault) wants l.last l.into.items;
  kept : (rest : List Change) × (l.into.items ≡ l.fn.into.items ++ rest);
  fine : AreFineTo (g.V.Vault.view l.vault).keys l.fn.done → AreFineTo (g.V.Vault.view l.vault).keys l.last;
}

abbrev pub decreases-loop-number : goal.decreases-loop-number
decreases-loop-number g l = l.fn.upto - l.last
