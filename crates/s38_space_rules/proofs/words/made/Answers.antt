use Rattle.std.proofs.Common.{◌∙◌, sym, ap}
use Rattle.std.specs.Prelude.{Some, is_some}
use Rattle.s38_space_rules.proofs.CreationLaws.{and_true, some_kind}
use Rattle.s38_space_rules.proofs.words.made.Goals as goal

pub returns : goal.returns
returns c = λ owner kind made body id user.
    c.new_object.ensures owner made (Some body)
    (and_true (is_some made.id) ∙ ap is_some id ∙ some_kind kind _ ∙ sym c.is_named.ensures) user
