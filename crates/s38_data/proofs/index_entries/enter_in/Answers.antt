use Rattle.std.proofs.Common.{sym, ap, ◌∙◌}
use Rattle.std.proofs.lemmas.Result.{on_ok_weaker, on_err_weaker}
use Rattle.s38_indexes.specs.Entries.{EntryIndex}
use Rattle.s38_rules.specs.families.Indexes.{entered}
use Rattle.s38_rules.specs.state.Parts.{over_part, index_part}
use Rattle.s38_rules.specs.state.LawfulParts.{index_lawful}
use Rattle.s38_rules.proofs.PartLaws.{part_kept, part_same, part_written}
use Rattle.s38_data.proofs.index_entries.enter_in.Goals as goal

pub returns-in_default-clause-ok : goal.returns-in_default-clause-ok
returns-in_default-clause-ok c =
    sym (part_kept index_part c.args.objects.now c.args.number.0 (entered c.args.entry.now) (sym c.in_default.ensures.value))

pub returns-clause-ok : goal.returns-clause-ok
returns-clause-ok c =
    on_ok_weaker c.enter.result
    (λ e. ap (λ (x : EntryIndex). over_part index_part c.args.objects.now c.args.number.0 (λ _. x)) e
    ∙ part_written index_part c.args.objects.now c.args.number.0 (entered c.args.entry.now) c.in-Some.index.now (sym c.in-Some.ensures.value))
    c.enter.ensures.ok

pub returns-clause-err : goal.returns-clause-err
returns-clause-err c =
    on_err_weaker c.enter.result
    (λ e. ap (λ (x : EntryIndex). over_part index_part c.args.objects.now c.args.number.0 (λ _. x)) e
    ∙ part_same index_part index_lawful c.args.objects.now c.args.number.0 c.in-Some.index.now (sym c.in-Some.ensures.value))
    c.enter.ensures.err
