use Rattle.std.proofs.Common.{◌≡◌, ◌++◌, drop}
use Rattle.s38_process.specs.Invocations.{homes_from}
use Rattle.s38_process.specs.Passed.{places_passed}
use Rattle.s38_process.proofs.homes.homes_from.Given as goal

abbrev pub invariant-loop-row : goal.invariant-loop-row
invariant-loop-row l =
    let places = places_passed l.base l.passed in
    l.homes.items ++ homes_from l.base places l.own (drop l.row-index l.rows) ≡ homes_from l.base places l.base l.rows
