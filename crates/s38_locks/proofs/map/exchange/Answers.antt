use Rattle.std.proofs.Common.{◌∙◌, List, ap}
use Rattle.s38_locks.specs.Locks.{Lock, is_locked, with_lock, without_lock}
use Rattle.s38_locks.proofs.TableLaws.{locked_with, written}
use Rattle.s38_locks.proofs.map.exchange.Goals as goal

pub returns-in-Some : goal.returns-in-Some
returns-in-Some c =
    let from = c.args.from in
    let to = c.args.to in
    let old = c.in-Some.held.now in
    let new = c.exchange.new.self in
    written c.args.object (λ (ls : List Lock). with_lock to (without_lock from ls)) c.args.objects.now.entries _ old new c.in-Some.ensures.value c.get_mut.ensures.ordered (c.get_mut.follows.holds new).0 c.exchange.ensures (ap is_locked c.exchange.ensures ∙ locked_with to (without_lock from old))
