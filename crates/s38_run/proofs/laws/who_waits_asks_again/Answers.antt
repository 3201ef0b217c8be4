use Rattle.std.proofs.Common.{◌≡◌, ℕ, ◌+◌, ◌<◌, List, length, arith}
use Rattle.s38_code.specs.declared.deck.Job.{Job}
use Rattle.s38_code.specs.declared.entry.Entry.{Entry}
use Rattle.s38_code.specs.declared.made.CreateResult.{CreateResult}
use Rattle.s38_code.specs.History.{entries_of}
use Rattle.s38_run.specs.Whole.{AllByProgram}
use Rattle.s38_run.proofs.AgainLaws.{RanFromStart, history_again}
use Rattle.s38_run.proofs.ListedJobs.{there_is}
use Rattle.s38_run.proofs.laws.who_waits_asks_again.Goals as goal

from_start : (made : List CreateResult) (jobs : List Job) (history : List Entry) (n : ℕ) → length made ≡ length jobs → n ≡ length jobs → AllByProgram made jobs history → (k : ℕ) → k < n → RanFromStart (entries_of (k + 1) history)
from_start made jobs history n count people ran k within =
    let job = there_is jobs k (omega (arith, within, people)) in
    let one = there_is made k (omega (arith, within, people, count)) in
    (one.0, job.0.budget, ran.each k job.0 one.0 job.1 one.1)

pub returns : goal.returns
returns c made jobs s history end count people leads ran = history_again s end history leads (from_start made jobs history (length s.processes) count people ran)
