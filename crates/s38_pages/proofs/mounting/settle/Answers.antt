use Rattle.std.proofs.Common.{false}
use Rattle.s38_disk.proofs.Runs.{sync_near}
use Rattle.s38_pages.proofs.Finishing.{settle_ends, settles}
use Rattle.s38_pages.proofs.mounting.settle.Goals as goal

pub returns-clause-moves : goal.returns-clause-moves
returns-clause-moves g c lay = settles lay (sync_near (λ i. false) c.sync.ensures.notes c.sync.ensures.cause.later)

pub returns-clause-done : goal.returns-clause-done
returns-clause-done g c = settle_ends c.sync.result c.sync.ensures.notes
