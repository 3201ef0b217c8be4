use Rattle.std.proofs.Common.{sym, ap, ◌∙◌}
use Rattle.std.proofs.lemmas.Result.{on_ok_weaker, on_err_weaker}
use Rattle.s38_rules.specs.declared.data_body.DataBody.{DataBody}
use Rattle.s38_rules.specs.state.Parts.{data_part, over_part}
use Rattle.s38_rules.specs.state.PartsAt.{over_table}
use Rattle.s38_rules.specs.state.LawfulParts.{data_lawful}
use Rattle.s38_rules.proofs.PartLaws.{part_kept, part_same, part_written}
use Rattle.s38_cursors.specs.Insertion.{roomy}
use Rattle.s38_cursors.proofs.insertion.make_room_in.Goals as goal

pub returns-in_default-clause-ok : goal.returns-in_default-clause-ok
returns-in_default-clause-ok c =
    sym (part_kept data_part c.args.objects.now c.args.number.0 (over_table roomy) (sym c.in_default.ensures.value))

pub returns-clause-ok : goal.returns-clause-ok
returns-clause-ok c =
    on_ok_weaker c.make_room.result
    (λ e. ap (λ (x : DataBody). over_part data_part c.args.objects.now c.args.number.0 (λ _. x)) e
    ∙ part_written data_part c.args.objects.now c.args.number.0 (over_table roomy) c.in-Some.body.now (sym c.in-Some.ensures.value))
    c.make_room.ensures.ok

pub returns-clause-err : goal.returns-clause-err
returns-clause-err c =
    on_err_weaker c.make_room.result
    (λ e. ap (λ (x : DataBody). over_part data_part c.args.objects.now c.args.number.0 (λ _. x)) e
    ∙ part_same data_part data_lawful c.args.objects.now c.args.number.0 c.in-Some.body.now (sym c.in-Some.ensures.value))
    c.make_room.ensures.err
