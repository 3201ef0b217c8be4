use Rattle.std.proofs.Common.{◌≡◌, ◌+◌, ◌-◌, ◌<◌, ◌≤◌, ℕ, length, take}
use Rattle.std.specs.Prelude.{◌↔◌}
use Rattle.s38_vault.specs.Content.{Content, changed}
use Rattle.s38_restart.proofs.removing.remove_all.Given as goal

-- the first changes are made
abbrev pub invariant-loop-done : goal.invariant-loop-done
invariant-loop-done g l = record {
  inside : l.done ≤ length l.changes;
  room : length l.changes ≤ (g.V.Vault.view l.vault).spare + l.done;
  view : l.done ≡ 0 → g.V.Vault.view l.vault ≡ g.V.Vault.view l.initial.vault;
  shape : (g.V.Vault.view l.vault).shape ≡ (g.V.Vault.view l.initial.vault).shape;
  faults : (g.V.Vault.view l.vault).faults ≡ (g.V.Vault.view l.initial.vault).faults;
  later : (g.V.Vault.view l.initial.vault).moment ≤ (g.V.Vault.view l.vault).moment;
  holds : (m : Content) → g.V.Vault.holds l.initial.vault m → g.V.Vault.holds l.vault (changed m (take l.done l.changes));
  past : (t : ℕ) (m : Content) → t ≤ (g.V.Vault.view l.initial.vault).moment → g.V.Vault.leaves l.initial.vault t m ↔ g.V.Vault.leaves l.vault t m;
  during : (m : Content) → g.V.Vault.holds l.initial.vault m → (t : ℕ) (n : Content) → (g.V.Vault.view l.initial.vault).moment < t → t ≤ (g.V.Vault.view l.vault).moment → g.V.Vault.leaves l.vault t n → (count : ℕ) × (n ≡ changed m (take count l.changes));
}

abbrev pub decreases-loop-done : goal.decreases-loop-done
decreases-loop-done g l = length l.changes - l.done
