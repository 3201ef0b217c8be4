use Rattle.s38_base.proofs.NameOrder.{names_order, names_equal}
use Rattle.std.proofs.Common.{◌∙◌, sym}
use Rattle.s38_base.proofs.name.NameOrd.cmp.Goals as goal

pub returns-then-head-other_head : goal.returns-then-head-other_head
returns-then-head-other_head c =
    c.cmp.ensures ∙ names_order c.args.self.now c.args.other.now _ _ c.head-head.ensures.name c.head-other_head.ensures.name c.head-head.ensures.number c.head-other_head.ensures.number c.if-head-other_head.true

pub returns-then-is_short-2 : goal.returns-then-is_short-2
returns-then-is_short-2 c =
    names_equal c.args.self.now c.args.other.now _ _ c.head-head.ensures.name c.head-other_head.ensures.name c.head-head.ensures.number c.head-other_head.ensures.number c.if-head-other_head.false (sym c.is_short.ensures ∙ c.if-is_short.true) (sym c.is_short-then-is_short.ensures ∙ c.if-is_short-2.true)
