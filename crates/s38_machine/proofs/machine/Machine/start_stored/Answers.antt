use Rattle.std.proofs.Common.{ap, ◌∙◌}
use Rattle.s38_machine.proofs.BegunLaws.{nobody_in}
use Rattle.s38_rules.specs.state.State.{State}
use Rattle.s38_machine.proofs.machine.Machine.start_stored.Goals as goal

pub begin-requires-clause-nobody : goal.begin-requires-clause-nobody
begin-requires-clause-nobody c = nobody_in _ c.args.jobs.now (ap (λ (s : State). s.processes) c.core.view_is ∙ ap (λ (s : State). s.processes) c.in_ok-core.ensures)
