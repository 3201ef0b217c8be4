use Rattle.std.proofs.Common.{◌<◌, ◌^◌, arith, rules, slice_index_or}
use Rattle.s38_laws_images.proofs.readable.RowLaws.{rows_fit, typed_more}
use Rattle.s38_laws_images.proofs.readable.fronts.rows_are_readable.Goals as goal
use Rattle.s38_rules.specs.declared.rows.PrivateRow.{PrivateRow}

pub loop-row-preserved : goal.loop-row-preserved
loop-row-preserved c =
    let none : PrivateRow = record { user = record { 0 = 0 }; rights = record { 0 = 0 } } in
    let user : (slice_index_or c.args.rows.now c.loop-row.row-index none).user.0 < 2 ^ 64 = search rules in
    let rights : (slice_index_or c.args.rows.now c.loop-row.row-index none).rights.0 < 256 = search rules in
    typed_more c.args.rows.now c.loop-row.row-index none c.loop-row-test.true c.loop-row.invariant (record { user = user; rights = rights })

pub returns : goal.returns
returns c = rows_fit c.args.rows.now c.requires (λ k d lt. c.loop-row.invariant k d (omega (arith, lt, c.loop-row-test.false)))
