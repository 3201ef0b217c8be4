use Rattle.std.proofs.Common.{◌≡◌, None, ap, get_or, true, ◌∙◌}
use Rattle.std.proofs.lemmas.Bool.{eq-eqb}
use Rattle.std.proofs.lemmas.List.{take_rest}
use Rattle.s38_base.specs.declared.page.Change.{Change}
use Rattle.s38_image.specs.PartPlaces.{ceiling_key}
use Rattle.s38_restart.specs.catalog.Groups.{is_part_of}
use Rattle.s38_restart.specs.catalog.Runs.{run}
use Rattle.s38_restart.proofs.catalog.RunLaws.{in_order, run_from}
use Rattle.s38_restart.proofs.catalog.ceiling.ceiling_parts.Goals as goal

pub returns-then-parts-at : goal.returns-then-parts-at
returns-then-parts-at c =
    let ps = c.args.parts.now in
    let i = c.loop-at.at in
    let d : Change = record { key = record { object = 0; part = 0 }; page = None } in
    let first : is_part_of ceiling_key (get_or ps i d) ≡ true = eq-eqb (get_or ps i d).key.object ceiling_key c.if-parts-at.true in
    c.run_of.ensures ∙ ap (run ceiling_key) (take_rest ps i) ∙ run_from ceiling_key ps i d c.loop-at-test.true (in_order ps c.requires) first c.loop-at.invariant
