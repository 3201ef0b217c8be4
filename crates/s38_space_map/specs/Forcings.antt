-- What the code forces is what the definitions force.
use Rattle.std.specs.Prelude.{List, map}
use Rattle.s38_space_map.specs.declared.forcing.Forcing.{Forcing}
use Rattle.s38_space_map.specs.declared.forcing.Forcing.TheVariants as forcings
use Rattle.s38_rules.specs.store.Forcing.{Ceiling, Forced, Header, Removed, Whole}

abbrev pub forced_as : Forcing → Forced
forced_as forcings.Ceiling = Ceiling
forced_as (forcings.Header n) = Header n.0
forced_as (forcings.Whole n) = Whole n.0
forced_as (forcings.Removed n) = Removed n.0

abbrev pub all_forced : List Forcing → List Forced
all_forced all = map forced_as all
