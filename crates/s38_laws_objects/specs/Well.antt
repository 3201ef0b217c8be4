-- When the objects of a state are well: a store can keep each of them, and its private rows are in order.
use Rattle.std.specs.Prelude.{◌≤◌, All, List, [], ◌∷◌}
use Rattle.s38_base.specs.Limits.{furthest}
use Rattle.s38_code.specs.declared.entry.Entry.{Entry}
use Rattle.s38_rules.specs.declared.object.Object.{Object}
use Rattle.s38_rules.specs.state.PrivateRows.{AreRows}
use Rattle.s38_rules.specs.state.State.{State}
use Rattle.s38_rules.specs.step.Step.{step}
use Rattle.s38_rules.specs.store.Storable.{IsStorable}

-- users of private rows rise, and each has a right
pub record IsWell (o : Object) : Type 0 where
  pub storable : IsStorable o
  pub rows : AreRows o.rows

-- each object is well, and no body may be longer than a space may reach
pub record AreWell (s : State) : Type 0 where
  pub limit : s.limit ≤ furthest
  pub objects : All IsWell s.held.objects
