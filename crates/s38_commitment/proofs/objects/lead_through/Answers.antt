use Rattle.s38_rules.specs.families.Changes.{through_port}
use Rattle.std.proofs.Common.{sym, ap, ◌∙◌}
use Rattle.s38_rules.specs.declared.data_body.DataBody.{DataBody}
use Rattle.s38_rules.specs.state.Parts.{data_part, over_part}
use Rattle.s38_rules.proofs.PartLaws.{part_kept, part_written}
use Rattle.s38_commitment.proofs.objects.lead_through.Goals as goal

pub returns-in-Some : goal.returns-in-Some
returns-in-Some c =
    ap (λ (x : DataBody). over_part data_part c.args.objects.now c.args.space.0 (λ _. x)) c.set_port.ensures
    ∙ part_written data_part c.args.objects.now c.args.space.0 (through_port c.args.port.0) c.in-Some.body.now (sym c.in-Some.ensures.value)

pub returns-in_default : goal.returns-in_default
returns-in_default c =
    sym (part_kept data_part c.args.objects.now c.args.space.0 (through_port c.args.port.0) (sym c.in_default.ensures.value))
