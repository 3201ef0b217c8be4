use Rattle.s38_laws_flush.proofs.puts.LongerLaws.{event_longer}
use Rattle.s38_laws_flush.proofs.puts.laws.journal_spaces_become_longer.Goals as goal

pub returns : goal.returns
returns c = event_longer
