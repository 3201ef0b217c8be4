use Rattle.s38_flush.proofs.EachLaws.{AreSoFar}
use Rattle.s38_space_map.specs.Forcings.{all_forced}
use Rattle.s38_flush.proofs.objects.add_each.Given as goal

-- the changes of the numbers so far are added
abbrev pub invariant-loop-number : goal.invariant-loop-number
invariant-loop-number g l =
    AreSoFar {V = g.row.V.Denot} g.V.Vault.view g.V.Vault.holds g.V.Vault.leaves (all_forced l.all) l.objects l.units l.fn.vault l.vault l.forced l.number-index l.into.items
