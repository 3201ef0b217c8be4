use Rattle.std.proofs.Common.{◌≡◌, map}
use Rattle.std.specs.Map.Iter.{deref}
use Rattle.s38_rules.specs.state.Keeping.{AreKeptRows}
use Rattle.s38_objects.proofs.kept.set_all_rows.Given as goal

abbrev pub invariant-loop-object : goal.invariant-loop-object
invariant-loop-object l = record {
  rows : AreKeptRows l.profiles.rows (map deref l.yielded);
  users : l.profiles.users ≡ l.fn.profiles.users;
}
