use Rattle.std.proofs.Common.{sym, ◌∙◌}
use Rattle.s38_cursors.proofs.CursorLaws.{too_far}
use Rattle.s38_cursors.proofs.reads.ordinal_in.Goals as goal

pub returns-then-ordinal-from : goal.returns-then-ordinal-from
returns-then-ordinal-from c =
    rw c.in-Some.is (sym (too_far c.in-Some.table.now.entries c.args.ordinal (rw (c.from.ensures ∙ c.ordinals.ensures.count) at c.if-ordinal-from.true)))
