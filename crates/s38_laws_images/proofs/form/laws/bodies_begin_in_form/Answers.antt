use Rattle.s38_laws_images.proofs.form.RestartLaws.{first_hold, installed_hold, restarted_hold}
use Rattle.s38_laws_images.proofs.form.laws.bodies_begin_in_form.Goals as goal

pub returns : goal.returns
returns c = record { first = first_hold; installed = installed_hold; restarted = λ limit parts small are fault. restarted_hold limit parts small are fault }
