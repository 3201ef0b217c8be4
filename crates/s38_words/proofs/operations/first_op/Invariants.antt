use Rattle.std.proofs.Common.{◌≡◌, drop}
use Rattle.s38_words.specs.Operation.{first_op}
use Rattle.s38_words.proofs.operations.first_op.Given as goal

abbrev pub invariant-loop-op : goal.invariant-loop-op
invariant-loop-op l = first_op l.ops l.word ≡ first_op (drop l.op-index l.ops) l.word
