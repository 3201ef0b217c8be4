use Rattle.s38_durable_machine.proofs.AskLaws.{asked_over}
use Rattle.s38_durable_machine.proofs.sharing.StoredMachineStepper.ask.Goals as goal

pub returns-clause-answered : goal.returns-clause-answered
returns-clause-answered g c =
    let S = g.V.Vault in
    asked_over S.view S.holds S.leaves c.args.self.now c.ask_any.new.self c.args.process c.args.event c.ask_any.result c.ask_any.ensures
