use Rattle.std.specs.Prelude.{Some}
use Rattle.s38_command.specs.declared.command.Command.TheVariants.{Install}
use Rattle.s38_top.proofs.SafeLaws.{safe_none}
use Rattle.s38_top.specs.declared.outcome.Outcome.TheVariants.{NoMemory}
use Rattle.s38_top.proofs.store.of_install.Goals as goal

pub returns-in_default-clause-safe : goal.returns-in_default-clause-safe
returns-in_default-clause-safe g c = safe_none (Some Install) (g.D.Disk.view c.args.disk) NoMemory
