use Rattle.std.proofs.Common.{◌≡◌, ◌+◌, ◌++◌}
use Rattle.std.specs.Prelude.{sum_by}
use Rattle.std.specs.List.{flat_map}
use Rattle.s38_image_writer.specs.Printing.{index_entry_bytes}
use Rattle.s38_indexes.specs.Entries.{AreShort, entry_size}
use Rattle.s38_image_writer.proofs.indexes.put_entries.Given as goal

abbrev pub invariant-loop-entry : goal.invariant-loop-entry
invariant-loop-entry l =
    record {
      bytes : l.into.bytes ++ flat_map index_entry_bytes l.entry-iterator ≡ l.initial.into.bytes ++ flat_map index_entry_bytes l.fn.entries;
      room : l.into.room + sum_by entry_size l.fn.entries ≡ l.initial.into.room + sum_by entry_size l.entry-iterator;
      short : AreShort 255 l.entry-iterator;
      place : l.into.place ≡ l.initial.into.place;
    }
