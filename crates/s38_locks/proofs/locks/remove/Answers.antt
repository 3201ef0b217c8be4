use Rattle.std.proofs.Common.{◌∙◌, sym}
use Rattle.s38_locks.proofs.OrderLaws.{removed_at}
use Rattle.s38_locks.proofs.locks.remove.Goals as goal

pub place_of-requires : goal.place_of-requires
place_of-requires c = rw c.deref.ensures.value c.requires.order

pub returns-in-Some-clause-items : goal.returns-in-Some-clause-items
returns-in-Some-clause-items c =
    c.remove.ensures.items ∙ removed_at c.args.lock c.args.locks.now.items c.in-Some.at (rw c.deref.ensures.value at (sym c.place_of.ensures ∙ c.in-Some.is))
