use Rattle.std.proofs.Common.{◌∙◌, Bool, sym, ap}
use Rattle.std.specs.Prelude.{◌&&◌, Option, is_some}
use Rattle.std.specs.Option.{option_map}
use Rattle.s38_code.specs.declared.program.Program.{Program}
use Rattle.s38_rules.specs.declared.object.Body.TheVariants as bodies
use Rattle.s38_rules.specs.families.Programs.{program_in, template_at}
use Rattle.s38_space_rules.proofs.CreationLaws.{program_there, program_user, some_kind}
use Rattle.s38_space_rules.proofs.words.made_program.Goals as goal

pub returns : goal.returns
returns c = λ owner kind made id.
    let program : Option Program = program_in (template_at c.args.world.now c.args.act.request.now.operands) in
    c.new_object.ensures owner made (option_map bodies.Program program)
    (ap (λ (b : Bool). is_some made.id && b) (program_there program) ∙ ap (λ (b : Bool). b && is_some program) (ap is_some id ∙ some_kind kind _) ∙ sym c.is_program_made.ensures)
    (program_user program)
