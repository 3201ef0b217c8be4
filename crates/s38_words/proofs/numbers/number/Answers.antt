use Rattle.std.proofs.Common.{rules}
use Rattle.s38_words.specs.Number.{number_spelled}
use Rattle.s38_words.proofs.NumberLaws.{number_of-held}
use Rattle.s38_words.proofs.numbers.number.Goals as goal

pub returns-clause-fits : goal.returns-clause-fits
unfolding number_spelled
returns-clause-fits c = number_of-held c.args.text.now c.unsigned_number.result (search rules)
