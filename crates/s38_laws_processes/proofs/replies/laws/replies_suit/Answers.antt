use Rattle.s38_laws_processes.proofs.replies.HistoryLaws.{history_suits}
use Rattle.s38_laws_processes.proofs.replies.laws.replies_suit.Goals as goal

-- src/laws.rt:1:1
pub returns : goal.returns
returns c = record { histories = history_suits }
