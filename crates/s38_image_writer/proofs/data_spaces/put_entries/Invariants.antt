use Rattle.std.proofs.Common.{◌≡◌, ◌+◌, ◌*◌, ◌++◌, drop}
use Rattle.std.specs.List.{flat_map}
use Rattle.s38_dataspaces.specs.Table.{entry_len}
use Rattle.s38_image_writer.specs.Printing.{slot_bytes}
use Rattle.s38_image.specs.Settled.{settled_entries}
use Rattle.s38_image_writer.proofs.data_spaces.put_entries.Given as goal

abbrev pub invariant-loop-k : goal.invariant-loop-k
invariant-loop-k l =
    record {
      bytes : l.into.bytes ++ flat_map (slot_bytes (entry_len l.held.fields)) (settled_entries l.units l.space.0 (l.k + 1) (drop l.k l.held.entries))
          ≡ l.initial.into.bytes ++ flat_map (slot_bytes (entry_len l.held.fields)) (settled_entries l.units l.space.0 1 l.held.entries);
      room : l.into.room + l.k * (1 + entry_len l.held.fields) ≡ l.initial.into.room;
      place : l.into.place ≡ l.initial.into.place;
    }
