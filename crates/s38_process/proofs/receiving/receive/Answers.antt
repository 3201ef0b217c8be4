use Rattle.s38_code.specs.Operations.{classes}
use Rattle.s38_process.proofs.ReceiptLaws.{none_given, one_value}
use Rattle.s38_process.proofs.receiving.receive.Goals as goal

pub returns-in-empty-clause-ok : goal.returns-in-empty-clause-ok
returns-in-empty-clause-ok c =
    let i = c.args.instruction.now in
    none_given i.op c.args.rows.now c.args.homes.now (classes i.op) i.args c.args.given.now c.args.values.now.items c.in-empty.len_below

pub returns-in-len1-clause-ok : goal.returns-in-len1-clause-ok
returns-in-len1-clause-ok c = rw (one_value c.args.given.now c.value-item.result c.in-len1.len_at_least c.in-len1.len_below c.value-item.is) c.receive_value.ensures.ok
