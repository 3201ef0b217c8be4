use Rattle.std.proofs.Common.{◌∙◌, ap, sym}
use Rattle.std.specs.BTreeMap.{is_at}
use Rattle.std.specs.Map.{remove_entry}
use Rattle.std.specs.Ordering.{nat_cmp}
use Rattle.s38_locks.specs.Locks.{without_lock}
use Rattle.s38_locks.specs.Table.{Table}
use Rattle.s38_locks.proofs.TableLaws.{emptied, written}
use Rattle.s38_locks.proofs.map.remove.Goals as goal

pub returns-then-is_locked : goal.returns-then-is_locked
returns-then-is_locked c =
    let old = c.in-Some.held.now in
    let new = c.remove.new.self in
    written c.args.object (without_lock c.args.lock) c.args.objects.now.entries _ old new c.in-Some.ensures.value c.get_mut.ensures.ordered (c.get_mut.follows.holds new).0 c.remove.ensures (sym c.is_locked.ensures ∙ c.if-is_locked.true)

pub returns-else-is_locked : goal.returns-else-is_locked
returns-else-is_locked c =
    let old = c.in-Some.held.now in
    let new = c.remove.new.self in
    emptied c.args.object (without_lock c.args.lock) c.args.objects.now.entries _ old new c.in-Some.ensures.value (c.remove-in-Some.ensures.entries ∙ ap (λ (t : Table). remove_entry (is_at (nat_cmp c.args.object)) t) (c.get_mut.follows.holds new).0) c.remove.ensures (sym c.is_locked.ensures ∙ c.if-is_locked.false)
