use Rattle.std.proofs.Common.{◌≡◌, ◌≤◌, length, map}
use Rattle.std.specs.FinMap.{find, get}
use Rattle.std.specs.List.Sorted.{IsStrictlySortedBy}
use Rattle.s38_base.specs.declared.page.Key.{Key}
use Rattle.s38_vault.specs.Keys.{key_cmp}
use Rattle.s38_pages.proofs.Trees.{either}
use Rattle.s38_pages.proofs.scan.fill.Given as goal

-- what is left, with what is there, is the tree
abbrev pub invariant-loop-key : goal.invariant-loop-key
invariant-loop-key l = record {
  rising : IsStrictlySortedBy key_cmp (map (λ e. e.0) l.key-iterator);
  room : length l.key-iterator ≤ l.homes.spare;
  told : (q : Key) → either (find key_cmp q l.key-iterator) (get l.homes.values q) ≡ find key_cmp q l.found.entries;
}
