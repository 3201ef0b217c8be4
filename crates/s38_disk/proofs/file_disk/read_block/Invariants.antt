use Rattle.std.proofs.Common.{◌≤◌}
use Rattle.s38_disk.proofs.file_disk.read_block.Given as goal

abbrev pub invariant-loop : goal.invariant-loop
invariant-loop l = l.done ≤ 528
