use Rattle.std.proofs.Common.{◌≡◌, ◌+◌, length}
use Rattle.s38_template.specs.Printing.{printed_lines}
use Rattle.s38_image_writer.proofs.texts.text_len.Given as goal

abbrev pub invariant-loop-line : goal.invariant-loop-line
invariant-loop-line l = l.len + length (printed_lines l.line-iterator) ≡ length (printed_lines l.fn.lines)
