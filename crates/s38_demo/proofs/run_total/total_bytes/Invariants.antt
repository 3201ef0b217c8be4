use Rattle.std.proofs.Common.{◌≡◌, ◌+◌, drop}
use Rattle.std.specs.List.{filter_map, slice_get}
use Rattle.s38_demo.specs.Total.{given, total_bytes}
use Rattle.s38_demo.proofs.run_total.total_bytes.Given as goal

abbrev pub invariant-loop-entry : goal.invariant-loop-entry
invariant-loop-entry l = slice_get (filter_map (given (l.size + 2)) (drop l.entry-index l.history)) 0 ≡ total_bytes l.size l.history
