use Rattle.std.proofs.Common.{sym, arith}
use Rattle.s38_dataspaces.proofs.StoredLaws.{found_entry, missing_entry, past_entry}
use Rattle.s38_dataspaces.proofs.slots.entry_in.Goals as goal

pub returns-then-at-presence-clause-entry : goal.returns-then-at-presence-clause-entry
returns-then-at-presence-clause-entry c =
    sym (past_entry c.args.presence.now c.args.bytes.now c.args.width c.args.at (omega arith))

pub returns-then-presence-at-clause-entry : goal.returns-then-presence-at-clause-entry
returns-then-presence-at-clause-entry c =
    let is = found_entry c.args.presence.now c.args.bytes.now c.args.width c.args.at (omega arith) c.if-presence-at.true in
    rw c.slot.ensures (sym is)

pub returns-else-presence-at-clause-entry : goal.returns-else-presence-at-clause-entry
returns-else-presence-at-clause-entry c =
    sym (missing_entry c.args.presence.now c.args.bytes.now c.args.width c.args.at c.if-presence-at.false)
