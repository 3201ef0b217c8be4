use Rattle.std.proofs.Common.{◌≡◌, ◌+◌, ◌≤◌, ◌++◌, length}
use Rattle.s38_image_writer.proofs.writer.PageWriter.put.Given as goal

abbrev pub invariant-loop-rest : goal.invariant-loop-rest
invariant-loop-rest l =
    record {
      bytes : l.self.bytes ++ l.rest ≡ l.initial.self.bytes ++ l.bytes;
      room : l.self.room + length l.bytes ≡ l.initial.self.room + length l.rest;
      within : length l.rest ≤ l.self.room;
      place : l.self.place ≡ l.initial.self.place;
    }

abbrev pub decreases-loop-rest : goal.decreases-loop-rest
decreases-loop-rest l = length l.rest
