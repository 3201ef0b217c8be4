use Rattle.std.proofs.Common.{◌≡◌, ℕ, ◌==◌, cond, take}
use Rattle.s38_profiles.specs.Rows.{row_at, row_key}
use Rattle.s38_rules.specs.state.Kept.{kept_row}
use Rattle.s38_rules.specs.state.PrivateRows.{row_of}
use Rattle.s38_objects.proofs.kept.set_rows.Given as goal

abbrev pub invariant-loop-row : goal.invariant-loop-row
invariant-loop-row l = record {
  rows : (user n : ℕ) → row_at l.profiles.rows (row_key user n) ≡ cond (l.number.0 == n) (kept_row (row_of (take l.row-index l.rows) user)) (row_at l.fn.profiles.rows (row_key user n));
  users : l.profiles.users ≡ l.fn.profiles.users;
}
