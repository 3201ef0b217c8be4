use Rattle.std.proofs.Common.{◌≡◌, ◌≤◌, take}
use Rattle.s38_vault.specs.Directory.{new_keys}
use Rattle.s38_page_diff.proofs.room.count_new.Given as goal

-- the new keys among the changes so far
abbrev pub invariant-loop-change : goal.invariant-loop-change
invariant-loop-change g l = record {
  few : l.count ≤ l.change-index;
  counted : l.count ≡ new_keys (g.V.Vault.view l.vault).keys (take l.change-index l.changes);
}
