use Rattle.std.proofs.Common.{◌≡◌, ◌+◌, ◌≤◌, take}
use Rattle.s38_vault.specs.Content.{changed}
use Rattle.s38_vault.proofs.map_vault.change_all.Given as goal

-- the changes so far are made, each with the memory of one at most
abbrev pub invariant-loop-change : goal.invariant-loop-change
invariant-loop-change l = record {
  values : l.pages.values ≡ changed l.initial.pages.values (take l.change-index l.changes);
  spare : l.initial.pages.spare ≤ l.pages.spare + l.change-index;
}
