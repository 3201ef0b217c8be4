use Rattle.s38_create.proofs.FitLemmas.{program-well_formed}
use Rattle.s38_create.proofs.creation.with_rows.Goals as goal

pub returns-clause-formed : goal.returns-clause-formed
returns-clause-formed c =
    rw c.into_rows.ensures
    (program-well_formed c.in_ok-template.template c.args.head c.args.scope.table c.args.scope.code c.in_ok-code.code
    c.requires.rows c.requires.formed c.requires.code c.in_ok-code.ensures.created)
