use Rattle.std.proofs.Common.{◌≡◌, length}
use Rattle.s38_template.specs.Lines.{names_in}
use Rattle.s38_template.proofs.Words.{more_names}
use Rattle.s38_template.proofs.job_line.names_in.Given as goal

abbrev pub invariant-loop-name : goal.invariant-loop-name
invariant-loop-name l = more_names l.names (names_in l.rest) ≡ names_in l.text

abbrev pub decreases-loop-name : goal.decreases-loop-name
decreases-loop-name l = length l.rest
