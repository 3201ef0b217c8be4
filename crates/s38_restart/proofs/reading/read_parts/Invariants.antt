use Rattle.std.proofs.Common.{◌≡◌, ◌≤◌, ◌-◌, ℕ, length, map, take}
use Rattle.std.specs.Prelude.{◌↔◌}
use Rattle.std.specs.FinMap.{keys}
use Rattle.s38_image.specs.Fitting.{AreFine}
use Rattle.s38_restart.proofs.PartLaws.{key_of}
use Rattle.s38_restart.specs.Parts.{all_parts, key_before}
use Rattle.s38_vault.specs.Content.{Content, HaveObjects}
use Rattle.s38_restart.proofs.reading.read_parts.Given as goal

-- the parts so far are the first ones, and the vault is as it was
abbrev pub invariant-loop-key : goal.invariant-loop-key
invariant-loop-key g l = record {
  before : l.before ≡ key_before (keys (g.V.Vault.view l.initial.vault).keys) (length l.parts.items);
  few : length l.parts.items ≤ length (keys (g.V.Vault.view l.initial.vault).keys);
  parts : (m : Content) → g.V.Vault.holds l.initial.vault m → l.parts.items ≡ take (length l.parts.items) (all_parts m);
  keys : map key_of l.parts.items ≡ take (length l.parts.items) (keys (g.V.Vault.view l.initial.vault).keys);
  objects : HaveObjects l.parts.items;
  fine : AreFine l.parts.items;
  view : g.V.Vault.view l.vault ≡ g.V.Vault.view l.initial.vault;
  holds : (m : Content) → g.V.Vault.holds l.initial.vault m ↔ g.V.Vault.holds l.vault m;
  past : (t : ℕ) (m : Content) → t ≤ (g.V.Vault.view l.initial.vault).moment → g.V.Vault.leaves l.initial.vault t m ↔ g.V.Vault.leaves l.vault t m;
}

abbrev pub decreases-loop-key : goal.decreases-loop-key
decreases-loop-key g l = length (keys (g.V.Vault.view l.initial.vault).keys) - length l.parts.items
