use Rattle.std.proofs.Common.{ap, sym, ◌∙◌}
use Rattle.std.specs.Prelude.{◌||◌, Option}
use Rattle.std.specs.BTreeSet.{contains}
use Rattle.s38_image.specs.Faults.{has_same}
use Rattle.s38_image.specs.declared.header.Header.{Header}
use Rattle.s38_objects.specs.NameOrder.{key, name_cmp}
use Rattle.s38_restart.proofs.catalog.ReadLaws.{entered_more}
use Rattle.s38_restart.proofs.catalog.repeats.enter.Goals as goal

pub returns-in-Ok-clause-names : goal.returns-in-Ok-clause-names
returns-in-Ok-clause-names c = λ h.
    entered_more c.args.names.now c.insert.new.self c.key.result c.in-Some.header h c.key.ensures c.in-Ok.ensures.updates
    ∙ ap (λ (o : Option Header). has_same h o || contains name_cmp c.args.names.now (key h.context.0 h.id)) (sym c.in-Some.is)
