use Rattle.s38_process.proofs.LawfulLaws.{begun_lawful}
use Rattle.s38_process.proofs.process.Process.begin.Goals as goal

pub returns-clause-lawful : goal.returns-clause-lawful
returns-clause-lawful c = λ suited. begun_lawful c.in_ok-inner.inner c.args.made c.args.job.now.budget c.in_ok-inner.ensures suited
