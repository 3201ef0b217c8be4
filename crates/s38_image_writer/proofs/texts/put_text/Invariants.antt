use Rattle.std.proofs.Common.{◌≡◌, ◌+◌, ◌++◌, length}
use Rattle.s38_template.specs.Printing.{printed_lines}
use Rattle.s38_image_writer.proofs.texts.put_text.Given as goal

abbrev pub invariant-loop-line : goal.invariant-loop-line
invariant-loop-line l =
    record {
      bytes : l.into.bytes ++ printed_lines l.line-iterator ≡ l.initial.into.bytes ++ printed_lines l.fn.lines;
      room : l.into.room + length (printed_lines l.fn.lines) ≡ l.initial.into.room + length (printed_lines l.line-iterator);
      place : l.into.place ≡ l.initial.into.place;
    }
