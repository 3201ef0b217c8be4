use Rattle.std.proofs.Common.{[]}
use Rattle.s38_laws_images.proofs.form.HistoryLaws.{history_forms, step_forms}
use Rattle.s38_laws_images.proofs.form.laws.bodies_keep_their_form.Goals as goal
use Rattle.s38_laws_processes.specs.owners.Beginnings.{state_over}

pub returns : goal.returns
returns c = record {
  steps = λ s p e has. step_forms s p e has;
  histories = λ room held templates jobs history end objects made leads. history_forms (state_over room held templates jobs) [] history end (record { objects = objects; templates = made }) leads;
}
