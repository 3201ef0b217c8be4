use Rattle.s38_laws_processes.proofs.owners.HistoryLaws.{history_agrees, opening_begins}
use Rattle.s38_laws_processes.proofs.owners.laws.the_right_owner_acts.Goals as goal

-- src/laws.rt:1:1
pub returns : goal.returns
returns c = record { begins = opening_begins; histories = history_agrees }
