use Rattle.std.proofs.Common.{◌≡◌, ◌-◌, ◌≤◌, ℕ, List, length, take, drop, arith, subst, sym}
use Rattle.std.proofs.lemmas.Grind.{common_steps}
use Rattle.s38_io.specs.Sink.{Written}
use Rattle.s38_io.proofs.Writing.{Written-none, Written-more}
use Rattle.s38_io.proofs.std_sink.write_whole.Goals as goal

pub loop-init : goal.loop-init
loop-init g c = Written-none _ _

-- the range after the bytes that were taken
drop-range : (n : ℕ) (rest : List ℕ) → n ≤ length rest → take (length rest - n) (drop n rest) ≡ drop n rest
drop-range n rest within = grind (arith, common_steps)

pub loop-preserved : goal.loop-preserved
loop-preserved g c =
    let so_far = Written-more _ _ _ _ _ c.in-Ok.count c.loop.invariant c.in-Ok.ensures.bytes in
    subst (Written _ _ c.args.piece.now) (sym (drop-range c.in-Ok.count c.loop.rest.now c.in-Ok.ensures.bound)) so_far
