use Rattle.s38_machine.proofs.EventLaws.{of_act}
use Rattle.s38_machine.proofs.effects.take_effect.Goals as goal

pub carry_out-requires-clause-value : goal.carry_out-requires-clause-value
carry_out-requires-clause-value c = of_act _ _ _ _ _ _ c.in-Act.is c.requires.value
