use Rattle.std.proofs.Common.{◌≡◌, ◌<◌, map}
use Rattle.std.specs.List.{flat_map}
use Rattle.std.specs.Map.Iter.{deref}
use Rattle.s38_checkpoint.specs.Closing.{closing}
use Rattle.s38_checkpoint.specs.Passing.{last_object_number}
use Rattle.s38_durable_state.specs.Durable.{whole_stored}
use Rattle.s38_durable_state.specs.Represents.{parts_at}
use Rattle.s38_image.specs.PartPlaces.{ceiling_key}
use Rattle.s38_image.specs.Images.{image_parts}
use Rattle.s38_page_diff.specs.reconcile.Replacing.{each_to}
use Rattle.s38_page_diff.specs.reconcile.Walking.{AreFineTo, AreSoFar, Stays}
use Rattle.s38_checkpoint.proofs.differences.add_objects.Given as goal

-- all changes up to the number of the last object gone through are known, and the vault is as it was
abbrev pub invariant-loop-object : goal.invariant-loop-object
invariant-loop-object g l = record {
  so_far : AreSoFar (g.V.Vault.view l.fn.vault).keys (g.V.Vault.holds l.fn.vault) (parts_at (closing l.fn.units l.fn.objects)) l.done l.into.items;
  whole : each_to (parts_at (closing l.fn.units l.fn.objects)) l.done ≡ flat_map image_parts (map (whole_stored l.fn.units l.fn.objects) (map deref l.yielded));
  fine : AreFineTo (g.V.Vault.view l.fn.vault).keys l.done;
  last : l.done ≡ last_object_number (map deref l.yielded);
  low : l.done < ceiling_key;
  stays : Stays g.V.Vault.view g.V.Vault.holds g.V.Vault.leaves l.fn.vault l.vault;
  count : (g.V.Vault.view l.vault).faults ≡ (g.V.Vault.view l.fn.vault).faults;
}
