use Rattle.std.proofs.Common.{◌∙◌, sym}
use Rattle.s38_locks.proofs.SearchLaws.{found_place, no_place}
use Rattle.s38_locks.proofs.locks.place_of.Goals as goal

pub returns-then-is_at : goal.returns-then-is_at
returns-then-is_at c =
    rw c.first_not_before-at.ensures.value (sym (found_place c.args.lock c.args.locks.now (rw c.first_not_before-at.ensures.value at (sym c.is_at.ensures ∙ c.if-is_at.true))))

pub returns-else-is_at : goal.returns-else-is_at
returns-else-is_at c =
    sym (no_place c.args.lock c.args.locks.now c.requires (rw c.first_not_before-at.ensures.value at (sym c.is_at.ensures ∙ c.if-is_at.false)))
