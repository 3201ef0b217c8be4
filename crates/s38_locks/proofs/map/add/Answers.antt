use Rattle.std.proofs.Common.{◌≡◌, ◌∙◌, ap}
use Rattle.std.proofs.lemmas.Result.{on_err_weaker, on_ok_weaker}
use Rattle.s38_locks.specs.Locks.{is_locked, with_lock}
use Rattle.s38_locks.proofs.TableLaws.{locked_with, unchanged, written}
use Rattle.s38_locks.proofs.map.add.Goals as goal

pub returns-in-Some-clause-ok : goal.returns-in-Some-clause-ok
returns-in-Some-clause-ok c =
    let lock = c.args.lock in
    let old = c.in-Some.held.now in
    let new = c.add.new.self in
    on_ok_weaker _ (λ (same : new ≡ with_lock lock old). written c.args.object (with_lock lock) c.args.objects.now.entries _ old new c.in-Some.ensures.value c.get_mut.ensures.ordered (c.get_mut.follows.holds new).0 same (ap is_locked same ∙ locked_with lock old)) c.add.ensures.ok

pub returns-in-Some-clause-err : goal.returns-in-Some-clause-err
returns-in-Some-clause-err c =
    let old = c.in-Some.held.now in
    let new = c.add.new.self in
    on_err_weaker _ (λ (same : new ≡ old). unchanged c.args.object c.args.objects.now.entries _ old new c.in-Some.ensures.value (c.get_mut.follows.holds new).0 same) c.add.ensures.err
