use Rattle.std.proofs.Common.{◌∙◌, ap, sym}
use Rattle.std.specs.Prelude.{◌||◌}
use Rattle.s38_commits.proofs.JoinLaws.{has_unit_in, unit_in_values}
use Rattle.s38_commits.proofs.unit_map.changes_space.Goals as goal

pub returns-then-changes_space : goal.returns-then-changes_space
returns-then-changes_space c =
    let space = c.args.space.0 in
    ap (λ b. b || has_unit_in space c.next.new.self) c.if-changes_space.ensures
    ∙ ap (has_unit_in space) (sym c.in-Some.ensures.steps) ∙ c.loop-unit.invariant
    ∙ unit_in_values space c.args.units.now.entries

pub returns : goal.returns
returns c =
    let space = c.args.space.0 in
    ap (has_unit_in space) (sym c.in-None.ensures.steps.0) ∙ c.loop-unit.invariant
    ∙ unit_in_values space c.args.units.now.entries
