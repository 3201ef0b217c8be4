use Rattle.std.proofs.Common.{◌≡◌, ◌-◌, ◌+◌, length}
use Rattle.s38_codec.specs.Formats.{read_from}
use Rattle.s38_image.specs.Journals.{entry}
use Rattle.s38_image.proofs.JournalReading.{with_before}
use Rattle.s38_image.proofs.journals.entries_in.Given as goal

abbrev pub invariant-loop-place : goal.invariant-loop-place
invariant-loop-place l =
    record {
      read : with_before l.journal.entries (read_from entry (length l.fn.from - l.place) (l.place + 1) l.rest) ≡ read_from entry (length l.fn.from) 1 l.fn.from;
      count : length l.journal.entries ≡ l.place;
      spare : l.journal.spare ≡ 0;
    }
