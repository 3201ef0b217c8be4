use Rattle.std.proofs.Common.{◌-◌, ◌+◌, List, ap, sym, ◌∙◌}
use Rattle.std.proofs.lemmas.Result.{err_from_is_err_and}
use Rattle.s38_base.specs.declared.attr.Attr.{Attr}
use Rattle.s38_codec.specs.Codec.{times}
use Rattle.s38_codec.proofs.Loop.{ends, goes_on, is_done, with_front}
use Rattle.s38_image.specs.Scalars.{attr}
use Rattle.s38_image.proofs.data_spaces.attrs_at.Goals as goal

pub returns-in_err-attr : goal.returns-in_err-attr
returns-in_err-attr c =
    let p = err_from_is_err_and c.from_residual.result c.from_residual.ensures.1 in
    rw (p.1, p.2) (ends attr c.in_err-attr.field-0.0 c.loop.attrs.items c.args.count c.loop.counter c.loop.rest.now _ c.loop-test.true c.in_err-attr.ensures c.loop.invariant)

pub returns : goal.returns
returns c = is_done attr c.loop.attrs.items c.args.count c.loop.counter c.loop.rest.now _ c.loop-test.false c.loop.invariant

pub loop-preserved : goal.loop-preserved
loop-preserved c =
    ap (λ (xs : List Attr). with_front xs ((times (c.args.count - (c.loop.counter + 1)) attr).read c.in_ok-attr.after.now)) (c.in_ok-push.ensures.items)
    ∙ goes_on attr c.loop.attrs.items c.args.count c.loop.counter c.loop.rest.now _ c.in_ok-attr.after.now _ c.loop-test.true c.in_ok-attr.ensures c.loop.invariant
