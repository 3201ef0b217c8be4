use Rattle.s38_odt.proofs.FormLaws.{rows_of-formed}
use Rattle.s38_odt.proofs.table.definition_table.Goals as goal

pub returns-in-Ok-clause-formed : goal.returns-in-Ok-clause-formed
returns-in-Ok-clause-formed c = (rows_of-formed c.args.code.now c.args.lines.now c.in-Ok.field-0.rows.items c.in-Ok.ensures.made).0

pub returns-in-Ok-clause-few : goal.returns-in-Ok-clause-few
returns-in-Ok-clause-few c = (rows_of-formed c.args.code.now c.args.lines.now c.in-Ok.field-0.rows.items c.in-Ok.ensures.made).1
