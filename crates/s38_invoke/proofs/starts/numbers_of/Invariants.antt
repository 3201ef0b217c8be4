use Rattle.std.proofs.Common.{◌≡◌, take}
use Rattle.s38_rules.specs.step.Effect.{numbers_of}
use Rattle.s38_invoke.proofs.starts.numbers_of.Given as goal

abbrev pub invariant-loop-name : goal.invariant-loop-name
invariant-loop-name g l = l.numbers ≡ numbers_of (g.T.Table.held l.objects) (take l.name-index l.names)
