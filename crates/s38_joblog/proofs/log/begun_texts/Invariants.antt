use Rattle.std.proofs.Common.{◌≡◌, take}
use Rattle.s38_joblog.specs.Grouped.{heads}
use Rattle.s38_joblog.proofs.log.begun_texts.Given as goal

abbrev pub invariant-loop-k : goal.invariant-loop-k
invariant-loop-k l = l.texts.items ≡ heads (take l.k l.jobs)
