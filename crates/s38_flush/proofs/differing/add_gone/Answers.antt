use Rattle.std.proofs.Common.{[]}
use Rattle.s38_flush.proofs.KeptLaws.{adds_at}
use Rattle.s38_flush.proofs.differing.add_gone.Goals as goal

pub returns-clause-adds : goal.returns-clause-adds
returns-clause-adds g c =
    let V = g.V.Vault in
    let old = c.args.vault.now in
    adds_at (V.view old).keys (V.holds old) c.args.number [] c.args.into.now.items c.add_wanted.new.into.items c.in_ok-add_wanted.ensures.at
