use Rattle.std.proofs.Common.{◌≡◌, ◌≤◌, take}
use Rattle.s38_vault.specs.Directory.{keys_of, new_keys}
use Rattle.s38_pages.proofs.plan.count_new.Given as goal

-- the new keys among the changes so far
abbrev pub invariant-loop-change : goal.invariant-loop-change
invariant-loop-change l = record {
  few : l.count ≤ l.change-index;
  counted : l.count ≡ new_keys (keys_of l.homes.values) (take l.change-index l.changes);
}
