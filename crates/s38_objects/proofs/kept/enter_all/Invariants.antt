use Rattle.std.proofs.Common.{◌≡◌, map}
use Rattle.std.specs.Map.Iter.{deref}
use Rattle.s38_rules.specs.state.Keeping.{AreUsers}
use Rattle.s38_objects.proofs.kept.enter_all.Given as goal

abbrev pub invariant-loop-object : goal.invariant-loop-object
invariant-loop-object l = record {
  users : AreUsers l.profiles.users (map deref l.yielded) (λ user. 0);
  rows : l.profiles.rows ≡ l.fn.profiles.rows;
}
