use Rattle.std.proofs.Common.{◌≡◌, drop}
use Rattle.s38_changes.proofs.RowLaws.{AreYet}
use Rattle.s38_changes.proofs.users.take_rows.Given as goal

abbrev pub invariant-loop-row : goal.invariant-loop-row
invariant-loop-row l = record {
  rows : AreYet l.profiles.rows l.fn.profiles.rows l.number.0 (drop l.row-index l.rows);
  users : l.profiles.users ≡ l.fn.profiles.users;
}
