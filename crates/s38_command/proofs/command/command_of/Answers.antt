use Rattle.std.proofs.Common.{map, sym, ◌∙◌, ap}
use Rattle.s38_command.specs.Commands.{command_in}
use Rattle.s38_command.proofs.CommandLaws.{demo_in_range}
use Rattle.s38_command.proofs.command.command_of.Goals as goal

pub returns-clause-size : goal.returns-clause-size
returns-clause-size c = λ n is. demo_in_range (map (λ w. w.now) c.args.words.now) n (sym (c.command_in.ensures ∙ ap command_in c.in_ok-said.ensures) ∙ is)
