use Rattle.std.proofs.Common.{◌∙◌, None, Some, ap, sym}
use Rattle.std.specs.Option.{option_copied}
use Rattle.s38_locks.proofs.OrderLaws.{transferred}
use Rattle.s38_locks.proofs.refusals.transfer_refusal.Goals as goal

pub returns-in-Some-hindrance_beside : goal.returns-in-Some-hindrance_beside
returns-in-Some-hindrance_beside c =
    let lock = c.in-Some-hindrance_beside.field-0.now in
    transferred c.args.from c.args.to c.args.state c.args.locks.now c.in-Some.at (Some lock) (sym c.place_of.ensures ∙ c.in-Some.is) (ap option_copied (sym c.in-Some-hindrance_beside.is) ∙ c.hindrance_beside.ensures)

pub returns-in-None : goal.returns-in-None
returns-in-None c =
    transferred c.args.from c.args.to c.args.state c.args.locks.now c.in-Some.at None (sym c.place_of.ensures ∙ c.in-Some.is) (ap option_copied (sym c.in-None.is) ∙ c.hindrance_beside.ensures)
