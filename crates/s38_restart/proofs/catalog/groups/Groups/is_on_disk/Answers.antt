use Rattle.std.proofs.Common.{ap, ◌∙◌}
use Rattle.std.specs.Prelude.{is_some}
use Rattle.s38_restart.proofs.catalog.LookupLaws.{some_copied, some_group}
use Rattle.s38_restart.proofs.catalog.groups.Groups.is_on_disk.Goals as goal

pub returns : goal.returns
returns c = c.is_some.ensures ∙ some_copied c.get.result ∙ ap is_some c.get.ensures ∙ some_group c.args.number c.args.self.now
