use Rattle.std.proofs.Common.{sym, ap, ◌∙◌}
use Rattle.s38_rules.specs.declared.data_body.DataBody.{DataBody}
use Rattle.s38_rules.specs.state.Parts.{data_part, over_part}
use Rattle.s38_rules.specs.state.PartsAt.{over_table}
use Rattle.s38_rules.proofs.PartLaws.{part_kept, part_written}
use Rattle.s38_cursors.specs.Insertion.{roomless}
use Rattle.s38_cursors.proofs.insertion.lose_room_in.Goals as goal

pub returns-in-Some : goal.returns-in-Some
returns-in-Some c =
    ap (λ (x : DataBody). over_part data_part c.args.objects.now c.args.number.0 (λ _. x)) c.lose_room.ensures
    ∙ part_written data_part c.args.objects.now c.args.number.0 (over_table roomless) c.in-Some.body.now (sym c.in-Some.ensures.value)

pub returns-in_default : goal.returns-in_default
returns-in_default c = sym (part_kept data_part c.args.objects.now c.args.number.0 (over_table roomless) (sym c.in_default.ensures.value))
