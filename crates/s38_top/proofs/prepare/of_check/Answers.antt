use Rattle.std.proofs.Common.{refl}
use Rattle.s38_command.specs.declared.command.Command.TheVariants.{Check}
use Rattle.s38_top.proofs.prepare.of_check.Goals as goal

pub returns-in-Ok : goal.returns-in-Ok
returns-in-Ok g c = λ disk. (c.in-Ok.ensures.read.0, (c.in-Ok.ensures.read.1.0, (refl, (c.in-Ok.ensures.read.1.1, (c.in-Ok.ensures.checked, refl)))))

pub returns-in-Err : goal.returns-in-Err
returns-in-Err g c = λ disk. c.in-Err.ensures.cause Check disk
