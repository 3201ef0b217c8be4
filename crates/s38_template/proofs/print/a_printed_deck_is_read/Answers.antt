use Rattle.s38_template.specs.Printing.{printed}
use Rattle.s38_template.proofs.Complete.{complete}
use Rattle.s38_template.proofs.Printed.{printed_spells}
use Rattle.s38_template.proofs.print.a_printed_deck_is_read.Goals as goal

pub returns-clause-spelled : goal.returns-clause-spelled
returns-clause-spelled c = printed_spells

pub returns-clause-read : goal.returns-clause-read
returns-clause-read c = λ text deck s. complete (printed deck) deck (printed_spells text deck s)
