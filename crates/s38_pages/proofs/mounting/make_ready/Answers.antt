use Rattle.std.proofs.Common.{◌+◌, ℕ, arith, subst}
use Rattle.s38_disk.specs.declared.block.Block.{Block}
use Rattle.s38_disk.specs.Blocks.{after_calls}
use Rattle.s38_disk.proofs.Runs.{now_at, weaker}
use Rattle.s38_pages.specs.Mounts.{IsFinishFault, IsMounted}
use Rattle.s38_pages.proofs.Finishing.{map_err, ready_ends, ready_moves}
use Rattle.s38_pages.proofs.VaultLemmas.{on_ok}
use Rattle.s38_pages.proofs.mounting.make_ready.Goals as goal

pub finish-requires-clause-size : goal.finish-requires-clause-size
finish-requires-clause-size g c = let m = c.settle.ensures.moves c.args.layout.now in omega (arith, c.requires.size, m.size)

pub returns-in_err-settle-clause-moves : goal.returns-in_err-settle-clause-moves
returns-in_err-settle-clause-moves g c = weaker (c.args.layout.now.most + 4) (IsMounted c.args.layout.now) (c.settle.ensures.moves c.args.layout.now) (omega arith) (λ s u is r. r)

pub returns-clause-moves : goal.returns-clause-moves
returns-clause-moves g c =
    let lay = c.args.layout.now in
    weaker (lay.most + 4) (IsMounted lay) (ready_moves lay (c.settle.ensures.moves lay) c.in_ok-settle.ensures.done c.finish.ensures.moves) (omega arith) (λ s u is r. r)

pub returns-clause-done : goal.returns-clause-done
returns-clause-done g c =
    let lay = c.args.layout.now in
    on_ok c.finish.result c.finish.ensures.done (λ ok f. ready_ends lay (c.settle.ensures.moves lay) c.in_ok-settle.ensures.done c.finish.ensures.moves f)

pub returns-clause-refused : goal.returns-clause-refused
returns-clause-refused g c =
    let lay = c.args.layout.now in
    let m = c.settle.ensures.moves lay in
    map_err c.finish.result c.finish.ensures.refused (λ fault p s is.
    let at = now_at m s is in
    let known = c.in_ok-settle.ensures.done s (after_calls s m.calls) is at in
    subst (λ (f : ℕ → Block). IsFinishFault lay f fault) known.1 (p (after_calls s m.calls) at))
