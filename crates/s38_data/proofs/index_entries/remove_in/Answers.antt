use Rattle.std.proofs.Common.{sym, ap, ◌∙◌}
use Rattle.s38_indexes.specs.Entries.{EntryIndex}
use Rattle.s38_rules.specs.families.Indexes.{removed}
use Rattle.s38_rules.specs.state.Parts.{over_part, index_part}
use Rattle.s38_rules.proofs.PartLaws.{part_kept, part_written}
use Rattle.s38_data.proofs.index_entries.remove_in.Goals as goal

pub returns-in-Some : goal.returns-in-Some
returns-in-Some c =
    ap (λ (x : EntryIndex). over_part index_part c.args.objects.now c.args.number.0 (λ _. x)) c.remove.ensures
    ∙ part_written index_part c.args.objects.now c.args.number.0 (removed c.args.entry.now) c.in-Some.index.now (sym c.in-Some.ensures.value)

pub returns-in_default : goal.returns-in_default
returns-in_default c =
    sym (part_kept index_part c.args.objects.now c.args.number.0 (removed c.args.entry.now) (sym c.in_default.ensures.value))
