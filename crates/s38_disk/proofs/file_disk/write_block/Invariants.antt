use Rattle.std.proofs.Common.{◌≤◌}
use Rattle.s38_disk.proofs.file_disk.write_block.Given as goal

abbrev pub invariant-loop : goal.invariant-loop
invariant-loop l = l.done ≤ 528
