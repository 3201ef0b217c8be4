use Rattle.std.proofs.Common.{◌≡◌, map}
use Rattle.std.specs.Map.Iter.{deref}
use Rattle.s38_rules.specs.state.Held.{charge_in}
use Rattle.s38_rules.specs.state.Keeping.{AreUsers}
use Rattle.s38_objects.proofs.kept.charge_all.Given as goal

abbrev pub invariant-loop-object : goal.invariant-loop-object
invariant-loop-object l = record {
  users : AreUsers l.profiles.users l.fn.objects.objects (charge_in (map deref l.yielded));
  rows : l.profiles.rows ≡ l.fn.profiles.rows;
}
