use Rattle.std.proofs.Common.{ap, ◌∙◌}
use Rattle.s38_decimal.specs.Values.{answer, exact_of}
use Rattle.s38_compute.proofs.NumberLaws.{scaled-none}
use Rattle.s38_compute.proofs.numbers.copied.Goals as goal

pub returns-clause-exact : goal.returns-clause-exact
returns-clause-exact c = c.scale.ensures.exact ∙ ap (answer c.args.to) (scaled-none (exact_of c.args.a))
