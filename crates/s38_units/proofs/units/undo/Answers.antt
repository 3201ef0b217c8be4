use Rattle.std.proofs.Common.{sym, ap, ◌∙◌}
use Rattle.s38_rules.specs.declared.data_body.DataBody.{DataBody}
use Rattle.s38_rules.specs.state.Parts.{data_part, over_part}
use Rattle.s38_rules.specs.state.PartsAt.{over_table}
use Rattle.s38_rules.specs.families.Units.{put_back}
use Rattle.s38_rules.proofs.PartLaws.{part_kept, part_written}
use Rattle.s38_units.proofs.units.undo.Goals as goal

pub returns-in-Some : goal.returns-in-Some
returns-in-Some c =
    ap (λ (x : DataBody). over_part data_part c.args.objects.now c.args.change.now.space.0 (λ _. x)) c.put_back.ensures
    ∙ part_written data_part c.args.objects.now c.args.change.now.space.0 (over_table (put_back c.args.change.now)) c.in-Some.body.now (sym c.in-Some.ensures.value)

pub returns-in_default : goal.returns-in_default
returns-in_default c =
    sym (part_kept data_part c.args.objects.now c.args.change.now.space.0 (over_table (put_back c.args.change.now)) (sym c.in_default.ensures.value))
