use Rattle.std.proofs.Common.{◌≡◌, map, take}
use Rattle.std.specs.BTreeSet.{contains}
use Rattle.std.specs.List.{list_any}
use Rattle.s38_image.specs.declared.header.Header.{Header}
use Rattle.s38_objects.specs.NameOrder.{key, name_cmp}
use Rattle.s38_restart.specs.catalog.Readings.{is_repeated}
use Rattle.s38_restart.proofs.catalog.ReadLaws.{has_head}
use Rattle.s38_restart.proofs.catalog.repeats.repeats.Given as goal

-- the identifications of the groups so far are entered
abbrev pub invariant-loop-group : goal.invariant-loop-group
invariant-loop-group l = record {
  names : (h : Header) → contains name_cmp l.names (key h.context.0 h.id) ≡ list_any (has_head h) (take l.group-index l.group-items);
  repeats : l.repeats.items ≡ map (is_repeated l.groups) (take l.group-index l.group-items);
  groups : l.group-items ≡ l.groups;
}
