use Rattle.s38_durable_machine.proofs.AskLaws.{replied_over}
use Rattle.s38_durable_machine.proofs.sharing.StoredMachineStepper.step.Goals as goal

pub returns-clause-answered : goal.returns-clause-answered
returns-clause-answered g c =
    let S = g.V.Vault in
    replied_over S.view S.holds S.leaves c.args.self.now c.step_any.new.self c.args.process c.args.event.now c.step_any.result c.step_any.ensures
