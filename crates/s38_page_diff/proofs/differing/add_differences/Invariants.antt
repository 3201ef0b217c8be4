use Rattle.std.proofs.Common.{◌≡◌, ◌≤◌, ◌++◌, ℕ, drop}
use Rattle.std.specs.Prelude.{◌↔◌, vec_capacity}
use Rattle.std.specs.FinMap.{get}
use Rattle.s38_page_diff.specs.Differences.{IsWanted, differences}
use Rattle.s38_page_diff.proofs.WantedLaws.{ReadSoFar}
use Rattle.s38_vault.specs.Content.{Content}
use Rattle.s38_page_diff.proofs.differing.add_differences.Given as goal

-- what was added and what is left are all differences, and the vault is as it was
abbrev pub invariant-loop-want : goal.invariant-loop-want
invariant-loop-want g l = record {
  object : l.left.object ≡ l.fn.range.object;
  end : l.left.end ≡ l.fn.range.end;
  wanted : IsWanted l.left (drop l.want-index l.wanted);
  capacity : vec_capacity l.initial.into ≤ vec_capacity l.into;
  told : (m : Content) → g.V.Vault.holds l.initial.vault m → l.into.items ++ differences (get m) l.left (drop l.want-index l.wanted) ≡ l.initial.into.items ++ differences (get m) l.fn.range l.wanted;
  read : ReadSoFar (g.V.Vault.view l.initial.vault).keys l.left l.fn.range (drop l.want-index l.wanted) l.wanted l.into.items l.initial.into.items;
  view : g.V.Vault.view l.vault ≡ g.V.Vault.view l.initial.vault;
  holds : (m : Content) → g.V.Vault.holds l.initial.vault m ↔ g.V.Vault.holds l.vault m;
  past : (t : ℕ) (m : Content) → t ≤ (g.V.Vault.view l.initial.vault).moment → g.V.Vault.leaves l.initial.vault t m ↔ g.V.Vault.leaves l.vault t m;
}
