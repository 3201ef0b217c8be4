use Rattle.std.proofs.Common.{ap, sym, ◌∙◌}
use Rattle.s38_image.proofs.RowLaws.{rows_are}
use Rattle.s38_image.specs.Headers.{users_rise}
use Rattle.s38_image.proofs.rows.rows_of.Goals as goal

pub from_rows-requires : goal.from_rows-requires
from_rows-requires c =
    let rises = ap users_rise (sym c.deref.ensures.value) ∙ sym c.are_rising.ensures ∙ c.if-not-are_rising.false in
    rows_are c.args.count c.args.bytes.now c.in_ok-rows.rows.items (λ k. (c.type_inv.bytes k).fits) (c.in_ok-rows.ensures) rises
