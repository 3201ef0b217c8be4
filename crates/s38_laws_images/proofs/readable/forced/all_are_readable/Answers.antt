use Rattle.std.proofs.Common.{subst, sym}
use Rattle.std.proofs.lemmas.List.Elements.{All-cons, All-head, All-nil, All-tail}
use Rattle.std.specs.Prelude.{All}
use Rattle.s38_laws_images.specs.readable.Readable.{IsAgain, IsFit}
use Rattle.s38_laws_images.proofs.readable.forced.all_are_readable.Goals as goal

pub object_is_readable-requires : goal.object_is_readable-requires
object_is_readable-requires c = All-head IsFit c.in-Some.object.now c.next.new.self (subst (All IsFit) c.in-Some.ensures.steps c.loop-object.invariant.0)

pub loop-object-preserved : goal.loop-object-preserved
loop-object-preserved c =
    let o = c.in-Some.object.now in
    let left = c.next.new.self in (
      All-tail IsFit o left (subst (All IsFit) c.in-Some.ensures.steps c.loop-object.invariant.0),
      λ rest. c.loop-object.invariant.1 (subst (All IsAgain) (sym c.in-Some.ensures.steps) (All-cons IsAgain o left (c.object_is_readable.ensures.whole, c.object_is_readable.ensures.front) rest)),
    )

pub returns : goal.returns
returns c = c.loop-object.invariant.1 (subst (All IsAgain) (sym c.in-None.ensures.steps.0) (All-nil IsAgain))
