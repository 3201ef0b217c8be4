-- What holds of a machine with a store.
use Rattle.std.specs.Prelude.{IfSome}
use Rattle.s38_laws_objects.specs.Well.{AreWell}
use Rattle.s38_space_rules.specs.Following.{Fits}
use Rattle.s38_rules.specs.state.State.{State}

-- where there is a store, its room fits the objects, and the objects are well
abbrev pub FitsStore : State → Type 0
FitsStore s = IfSome s.room (λ room. Fits room.extents s.held × AreWell s)
