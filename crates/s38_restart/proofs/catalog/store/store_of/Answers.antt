use Rattle.std.proofs.Common.{ℕ, List, None, Option, Some, ap, subst, sym, ◌∙◌}
use Rattle.s38_image.specs.Faults.{Group, first_under}
use Rattle.s38_restart.specs.catalog.Stores.{IsFirst}
use Rattle.s38_restart.proofs.catalog.StoreLaws.{fault_by_ceiling}
use Rattle.s38_restart.proofs.catalog.store.store_of.Goals as goal

pub returns-in_default-clause-fault : goal.returns-in_default-clause-fault
returns-in_default-clause-fault c = fault_by_ceiling c.args.limit c.args.parts.now None (sym c.in_default.is ∙ c.in_ok-ceiling.ensures)

pub returns-in-Err-clause-fault : goal.returns-in-Err-clause-fault
returns-in-Err-clause-fault c =
    let limit = c.args.limit in
    let ceiling = c.in-Some.ceiling in
    let under = fault_by_ceiling limit c.args.parts.now (Some ceiling) (sym c.in-Some.is ∙ c.in_ok-ceiling.ensures) ∙ ap (λ (gs : List Group). first_under gs limit ceiling) (sym c.in_ok-groups.ensures) in
    subst (λ (o : Option (ℕ × ℕ)). IsFirst o c.in-Err.fault) (sym under) c.in-Err.ensures.fault

pub returns-clause-sound : goal.returns-clause-sound
returns-clause-sound c =
    let limit = c.args.limit in
    let ceiling = c.in-Some.ceiling in
    fault_by_ceiling limit c.args.parts.now (Some ceiling) (sym c.in-Some.is ∙ c.in_ok-ceiling.ensures) ∙ ap (λ (gs : List Group). first_under gs limit ceiling) (sym c.in_ok-groups.ensures) ∙ c.in-Ok.ensures.sound
