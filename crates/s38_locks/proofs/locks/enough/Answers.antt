use Rattle.std.proofs.Common.{length, sym}
use Rattle.std.proofs.lemmas.Bool.{lt-ltb, ltb-true}
use Rattle.s38_locks.specs.Locks.{comes_later, lock_place}
use Rattle.s38_locks.proofs.SearchLaws.{enough_before}
use Rattle.s38_locks.proofs.locks.enough.Goals as goal

pub returns-then-at-place-clause-found : goal.returns-then-at-place-clause-found
returns-then-at-place-clause-found c =
    let lock = c.args.lock in
    let other = c.in-Some.other.now in
    let xs = c.args.locks.now in
    let end = c.loop-other.end in
    let is = c.in-Some.ensures.lookup in
    let later = lt-ltb (lock_place lock) (lock_place other) (rw (c.place-at.ensures, c.place.ensures) at c.if-at-place.true) in
    enough_before (comes_later lock) other xs end (ltb-true end (length xs) (sym is.0)) is.1 later
