use Rattle.std.proofs.Common.{◌≡◌, ◌-◌, drop}
use Rattle.s38_image.specs.Headers.{users_rise}
use Rattle.s38_image.proofs.rows.are_rising.Given as goal

abbrev pub invariant-loop-at : goal.invariant-loop-at
invariant-loop-at l = users_rise (drop (l.at - 1) l.rows) ≡ users_rise l.rows
