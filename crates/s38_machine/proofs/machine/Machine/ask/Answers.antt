use Rattle.std.proofs.Common.{arith, subst, sym}
use Rattle.s38_rules.specs.step.Legal.{IsSound, Run}
use Rattle.s38_rules.proofs.Laws.{sound_after}
use Rattle.s38_machine.proofs.machine.Machine.ask.Goals as goal

pub returns-in-Ok-clause-sound : goal.returns-in-Ok-clause-sound
returns-in-Ok-clause-sound c =
    let F : Run → Type 0 = λ m. IsSound m in
    subst F (sym c.in-Ok.ensures.ok) (sound_after c.args.self.now c.args.self.now.moment c.args.process c.args.event c.requires.sound c.requires.may (omega arith))
