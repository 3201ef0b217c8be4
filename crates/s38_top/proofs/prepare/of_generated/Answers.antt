use Rattle.std.proofs.Common.{ℕ, List, subst, ◌∙◌}
use Rattle.s38_command.specs.declared.command.Command.TheVariants.{Demo}
use Rattle.s38_top.specs.Causes.{OfText}
use Rattle.s38_top.proofs.prepare.of_generated.Goals as goal

pub returns-in-Err : goal.returns-in-Err
returns-in-Err c = λ disk.
    subst (λ (t : List ℕ). OfText (Demo c.args.size) t disk disk c.in-Err.outcome) (c.as_slice.ensures.value ∙ c.in-Ok.ensures.text) (c.in-Err.ensures.cause (Demo c.args.size) disk)

pub returns : goal.returns
returns c = λ disk.
    subst (λ (t : List ℕ). OfText (Demo c.args.size) t disk disk c.of_demo.result) (c.as_slice-in-Ok-checked_deck.ensures.value ∙ c.in-Ok.ensures.text) (c.of_demo.ensures disk)
