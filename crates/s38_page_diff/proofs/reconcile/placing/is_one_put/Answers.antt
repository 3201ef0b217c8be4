use Rattle.std.proofs.Common.{arith, rules}
use Rattle.s38_page_diff.proofs.reconcile.PlacedLaws.{new_few}
use Rattle.s38_page_diff.proofs.reconcile.placing.is_one_put.Goals.{then-changes-free, else-changes-free}
use Rattle.s38_page_diff.proofs.reconcile.placing.is_one_put.Goals as goal

pub returns-then-fits-clause-room : goal.returns-then-fits-clause-room
returns-then-fits-clause-room g c = λ few. elim c.if-changes-free.branch [
  | then-changes-free w ↦ omega (arith, new_few (g.V.Vault.view c.args.vault.now).keys c.args.changes.now, w.if-changes-free, c.free.ensures.free)
  | else-changes-free w ↦ search rules
]
