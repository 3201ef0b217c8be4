-- What lies under the parameters of an invocation that begins.
use Rattle.std.specs.Prelude.{ℕ, List}
use Rattle.s38_process.specs.Invocations.{argument_places}
use Rattle.s38_process.specs.declared.homes.Passed.{Passed}
use Rattle.s38_process.specs.declared.homes.Passed.TheVariants.{Given, Arguments}

-- the variables that a job gives, by their places, or the arguments of a call, by the caller's homes
abbrev pub places_passed : ℕ → Passed → List ℕ
places_passed base (Given places) = places.now
places_passed base (Arguments homes arguments) = argument_places homes.now base arguments.now
