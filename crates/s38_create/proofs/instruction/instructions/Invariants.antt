use Rattle.std.proofs.Common.{◌≡◌, ◌+◌, [], length}
use Rattle.s38_create.specs.Instruction.{code_from}
use Rattle.s38_odt.specs.Labels.{instruction_count}
use Rattle.s38_create.proofs.instruction.instructions.Given as goal

abbrev pub invariant-loop-line : goal.invariant-loop-line
invariant-loop-line l = record {
  count : length l.created + instruction_count l.line-iterator ≡ instruction_count l.scope.code;
  rest : code_from l.scope.table l.scope.code [] l.scope.code
      ≡ code_from l.scope.table l.scope.code l.created l.line-iterator;
}
