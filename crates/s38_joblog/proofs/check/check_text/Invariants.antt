use Rattle.std.proofs.Common.{◌≡◌, take}
use Rattle.std.specs.List.{flat_map}
use Rattle.s38_joblog.specs.Check.{check_line}
use Rattle.s38_joblog.proofs.check.check_text.Given as goal

abbrev pub invariant-loop-template : goal.invariant-loop-template
invariant-loop-template l = l.text ≡ flat_map check_line (take l.template-index l.templates)
