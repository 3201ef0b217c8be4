use Rattle.std.proofs.Common.{◌≡◌, ◌+◌, length}
use Rattle.std.specs.Prelude.{filter}
use Rattle.std.specs.Map.{keys_of}
use Rattle.s38_rules.specs.state.Journaling.{is_that_number, journal_of_port}
use Rattle.s38_units.specs.Blocks.{leads_to}
use Rattle.s38_units.proofs.journaling.count_blocks.Given as goal

-- the answer is that of the port, and those counted are, with those of the blocks that are left, all
abbrev pub invariant-loop-block : goal.invariant-loop-block
invariant-loop-block l = record {
  leads : l.leads ≡ is_that_number l.journal.0 (journal_of_port l.objects l.port.0);
  counted : l.count + length (filter (leads_to l.objects l.journal.0) l.block-iterator) ≡ length (filter (leads_to l.objects l.journal.0) (keys_of l.units));
}
