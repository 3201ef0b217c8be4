use Rattle.s38_rules.specs.step.Legal.{IsProcess, IsSound}
use Rattle.s38_tests_machine.proofs.puts.puts_done.Given as goal

abbrev pub invariant-loop-k : goal.invariant-loop-k
invariant-loop-k l = record { sound : IsSound l.machine; may : IsProcess l.machine.origin 1 }
