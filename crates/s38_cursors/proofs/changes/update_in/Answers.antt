use Rattle.std.proofs.Common.{sym, ap, ◌∙◌}
use Rattle.std.specs.Prelude.{Some}
use Rattle.s38_rules.specs.families.EntryChanges.{with_changed}
use Rattle.s38_rules.specs.declared.data_body.DataBody.{DataBody}
use Rattle.s38_rules.specs.state.Parts.{data_part, over_part}
use Rattle.s38_rules.specs.state.PartsAt.{over_table}
use Rattle.s38_rules.proofs.PartLaws.{part_written}
use Rattle.s38_cursors.proofs.changes.update_in.Goals as goal

pub returns-in-Some : goal.returns-in-Some
returns-in-Some c =
    ap (λ (x : DataBody). over_part data_part c.args.objects.now c.args.number.0 (λ _. x)) c.update.ensures
    ∙ part_written data_part c.args.objects.now c.args.number.0 (over_table (with_changed c.args.at (Some c.args.entry.now))) c.in-Some.body.now (sym c.in-Some.ensures.value)
