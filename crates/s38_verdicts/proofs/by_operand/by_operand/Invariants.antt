use Rattle.std.proofs.Common.{◌≡◌, ◌+◌, drop}
use Rattle.s38_rules.specs.ask.AddressRules.{by_operand}
use Rattle.s38_verdicts.specs.Resolved.{needs_of}
use Rattle.s38_verdicts.proofs.by_operand.by_operand.Given as goal

abbrev pub invariant-loop-operand : goal.invariant-loop-operand
invariant-loop-operand g l = (l.number ≡ l.k + l.operand-index)
    × (by_operand (g.R.OperandRules.of_item l.rules) (g.R.OperandRules.of_need l.rules) (needs_of l.needs) l.number (drop l.operand-index l.rest) ≡ by_operand (g.R.OperandRules.of_item l.rules) (g.R.OperandRules.of_need l.rules) (needs_of l.needs) l.k l.rest)
