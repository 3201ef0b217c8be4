use Rattle.std.proofs.Common.{◌≡◌, drop}
use Rattle.s38_restart.specs.catalog.Readings.{first_beside}
use Rattle.s38_restart.proofs.catalog.reading.Reading.first_beside.Given as goal

abbrev pub invariant-loop-one : goal.invariant-loop-one
invariant-loop-one l = first_beside l.self.groups l.self.limit l.self.ceiling l.stored ≡ first_beside l.self.groups l.self.limit l.self.ceiling (drop l.one-index l.stored)
