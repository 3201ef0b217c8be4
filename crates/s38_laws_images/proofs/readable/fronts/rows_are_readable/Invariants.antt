use Rattle.std.proofs.Common.{ℕ, ◌<◌, slice_index_or}
use Rattle.s38_laws_images.proofs.readable.RowLaws.{IsTyped}
use Rattle.s38_laws_images.proofs.readable.fronts.rows_are_readable.Given as goal
use Rattle.s38_rules.specs.declared.rows.PrivateRow.{PrivateRow}

-- each row so far is of its type
abbrev pub invariant-loop-row : goal.invariant-loop-row
invariant-loop-row l = (k : ℕ) (d : PrivateRow) → k < l.row-index → IsTyped (slice_index_or l.rows k d)
