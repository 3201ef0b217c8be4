use Rattle.std.proofs.Common.{sym, ◌∙◌, ap}
use Rattle.s38_code.specs.Operations.{classes}
use Rattle.s38_process.specs.Replies.{place_for, put_received}
use Rattle.s38_process.proofs.ReceiptLaws.{received_one}
use Rattle.s38_process.proofs.receiving.receive_one.Goals as goal

pub returns-in-Ok-clause-ok : goal.returns-in-Ok-clause-ok
returns-in-Ok-clause-ok c =
    let i = c.args.instruction.now in
    let rows = c.args.rows.now in
    let homes = c.args.homes.now in
    let values = c.args.values.now in
    let v = c.args.value.now in
    c.in-Ok.ensures.ok
    ∙ ap (λ o. put_received i.op values o v) (c.place_for-place.ensures ∙ ap (λ cs. place_for rows homes cs c.as_slice.result.now) c.classes.ensures ∙ ap (place_for rows homes (classes i.op)) c.as_slice.ensures.items)
    ∙ sym (received_one i.op rows homes (classes i.op) i.args v values)
