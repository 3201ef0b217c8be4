use Rattle.std.proofs.Common.{Some}
use Rattle.s38_profiles.specs.Rows.{row_with}
use Rattle.s38_profiles.proofs.MapLaws.{row_made, row_set}
use Rattle.s38_profiles.proofs.rows.set.Goals as goal

pub returns-in-Ok-clause-others : goal.returns-in-Ok-clause-others
returns-in-Ok-clause-others c = row_set c.args.rows.now c.insert.new.self c.args.key (Some c.args.rights) (row_with c.args.rights) c.in-Ok.ensures.updates.0 (row_made c.args.rights c.if-rights-eq0.false)
