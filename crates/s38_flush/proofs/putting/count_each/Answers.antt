use Rattle.std.proofs.Common.{arith}
use Rattle.s38_flush.proofs.BothLaws.{new_few}
use Rattle.s38_flush.proofs.putting.count_each.Goals as goal

pub overflow_add-result : goal.overflow_add-result
overflow_add-result g c =
    let keys = (g.V.Vault.view c.args.vault.now).keys in
    omega (arith, c.requires.few, c.count_new.ensures, c.count_new-2.ensures, new_few keys c.args.ceiling.now, new_few keys c.args.first.now)

pub overflow_add-result-2 : goal.overflow_add-result-2
overflow_add-result-2 g c =
    let keys = (g.V.Vault.view c.args.vault.now).keys in
    omega (arith, c.requires.few, c.count_new.ensures, c.count_new-2.ensures, c.count_new-3.ensures, new_few keys c.args.ceiling.now, new_few keys c.args.first.now, new_few keys c.args.later.now)
