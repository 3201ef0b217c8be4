use Rattle.std.proofs.Common.{◌≡◌, ◌<◌, ◌≤◌, ℕ, length, map, ◌↔◌}
use Rattle.std.specs.Map.Iter.{deref}
use Rattle.std.specs.List.{flat_map}
use Rattle.s38_durable_state.specs.Durable.{whole_stored}
use Rattle.s38_image.specs.Images.{image_parts}
use Rattle.s38_page_diff.specs.reconcile.Replacing.{each_to}
use Rattle.s38_checkpoint.specs.Closing.{closing}
use Rattle.s38_checkpoint.specs.Ensuring.{FirstFit, IsLeft}
use Rattle.s38_checkpoint.specs.Passing.{last_object_number}
use Rattle.s38_checkpoint.specs.Waiting.{Waits}
use Rattle.s38_durable_state.specs.Represents.{parts_at}
use Rattle.s38_image.specs.PartPlaces.{ceiling_key}
use Rattle.s38_page_diff.specs.reconcile.Walking.{AreFineTo, AreSoFar}
use Rattle.s38_vault.specs.Content.{Content}
use Rattle.s38_vault.specs.Directory.{new_keys}
use Rattle.s38_checkpoint.proofs.closing.keep_objects.Given as goal

-- all changes up to the last object gone through wait or were put, and a crash leaves what it may
abbrev pub invariant-loop-object : goal.invariant-loop-object
invariant-loop-object g l = record {
  so_far : AreSoFar (g.V.Vault.view l.vault).keys (g.V.Vault.holds l.vault) (parts_at (closing l.fn.units l.fn.objects)) l.done l.changes.items;
  room : new_keys (g.V.Vault.view l.vault).keys l.changes.items ≤ (g.V.Vault.view l.vault).free;
  fine : (n : Content) → g.V.Vault.holds l.vault n → AreFineTo (g.V.Vault.view l.vault).keys l.done;
  last : l.done ≡ last_object_number (map deref l.yielded);
  low : l.done < ceiling_key;
  whole : each_to (parts_at (closing l.fn.units l.fn.objects)) l.done ≡ flat_map image_parts (map (whole_stored l.fn.units l.fn.objects) (map deref l.yielded));
  waits : (m : Content) → g.V.Vault.holds l.fn.vault m → (n : Content) × (g.V.Vault.holds l.vault n × Waits (g.V.Vault.view l.fn.vault).shape.most m (closing l.fn.units l.fn.objects) l.fn.objects (map deref l.yielded) n l.changes.items);
  fits : (m : Content) → g.V.Vault.holds l.fn.vault m → FirstFit (g.V.Vault.view l.fn.vault).shape.parts m (closing l.fn.units l.fn.objects) l.fn.objects (length (map deref l.yielded));
  past : (t : ℕ) (m : Content) → t ≤ (g.V.Vault.view l.fn.vault).moment → g.V.Vault.leaves l.fn.vault t m ↔ g.V.Vault.leaves l.vault t m;
  during : (m : Content) → g.V.Vault.holds l.fn.vault m → (t : ℕ) (x : Content) → (g.V.Vault.view l.fn.vault).moment < t → t ≤ (g.V.Vault.view l.vault).moment → g.V.Vault.leaves l.vault t x → IsLeft (g.V.Vault.view l.fn.vault).shape.most m (closing l.fn.units l.fn.objects) l.fn.objects x;
  later : (g.V.Vault.view l.fn.vault).moment ≤ (g.V.Vault.view l.vault).moment;
  shape : (g.V.Vault.view l.vault).shape ≡ (g.V.Vault.view l.fn.vault).shape;
  count : (g.V.Vault.view l.vault).faults ≡ (g.V.Vault.view l.fn.vault).faults;
}
