use Rattle.std.proofs.Common.{◌-◌, ◌+◌, Bool, cond, List, Some, None, ap, sym, ◌∙◌}
use Rattle.std.proofs.lemmas.Result.{err_from_is_err_and}
use Rattle.s38_codec.specs.Codec.{times}
use Rattle.s38_codec.proofs.Loop.{goes_on, whole_done, whole_ends, with_front}
use Rattle.s38_image.specs.Headers.{row_form}
use Rattle.s38_rules.specs.declared.rows.PrivateRow.{PrivateRow}
use Rattle.s38_image.proofs.rows.rows_in.Goals as goal

pub returns-in_err-row : goal.returns-in_err-row
returns-in_err-row c =
    let p = err_from_is_err_and c.from_residual.result c.from_residual.ensures.1 in
    rw (p.1, p.2) (whole_ends row_form c.in_err-row.field-0.0 c.loop.rows.items c.args.count c.loop.counter c.loop.rest.now c.args.from.now c.loop-test.true c.in_err-row.ensures c.loop.invariant)

pub loop-preserved : goal.loop-preserved
loop-preserved c =
    ap (λ (rs : List PrivateRow). with_front rs ((times (c.args.count - (c.loop.counter + 1)) row_form).read c.in_ok-row.after.now)) (c.in_ok-push.ensures.items)
    ∙ goes_on row_form c.loop.rows.items c.args.count c.loop.counter c.loop.rest.now _ c.in_ok-row.after.now _ c.loop-test.true c.in_ok-row.ensures c.loop.invariant

pub returns-then-not-is_empty : goal.returns-then-not-is_empty
returns-then-not-is_empty c =
    whole_done row_form c.loop.rows.items c.args.count c.loop.counter c.loop.rest.now c.args.from.now c.loop-test.false c.loop.invariant
    ∙ ap (λ (b : Bool). cond b (Some c.loop.rows.items) None) (sym c.is_empty.ensures ∙ c.if-not-is_empty.true)

pub returns : goal.returns
returns c =
    whole_done row_form c.loop.rows.items c.args.count c.loop.counter c.loop.rest.now c.args.from.now c.loop-test.false c.loop.invariant
    ∙ ap (λ (b : Bool). cond b (Some c.loop.rows.items) None) (sym c.is_empty.ensures ∙ c.if-not-is_empty.false)
