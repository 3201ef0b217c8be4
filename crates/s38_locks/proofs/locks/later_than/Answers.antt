use Rattle.std.proofs.lemmas.List.Sorted.{IsNonDecreasingBy-take}
use Rattle.s38_locks.specs.Locks.{lock_place}
use Rattle.s38_locks.proofs.locks.later_than.Goals as goal

pub first_later-requires : goal.first_later-requires
first_later-requires c = IsNonDecreasingBy-take lock_place c.enough.result c.args.locks.now c.requires
