-- How contracts see an instruction's line.
use Rattle.std.specs.Option.{option_map}
use Rattle.s38_words.specs.ProgramLine.{ActLine, act}
use Rattle.s38_words.specs.declared.program_lines.InstructionLine.{InstructionLine}

abbrev pub act_in : InstructionLine → ActLine
act_in line = act line.op line.round (option_map (λ operands. operands.now) line.operands)
