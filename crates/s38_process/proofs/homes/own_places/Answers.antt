use Rattle.std.proofs.Common.{◌≡◌, IfOk, Vec, ℕ, Global, subst, refl, arith}
use Rattle.std.proofs.lemmas.Iterator.{YieldsList-from_range, items_from_collect}
use Rattle.std.specs.List.{range_with_len}
use Rattle.s38_process.proofs.homes.own_places.Goals as goal

pub returns : goal.returns
returns c =
    let all : IfOk c.collect.result (λ (w : Vec ℕ Global). w.items ≡ range_with_len 0 c.args.count) =
    items_from_collect c.collect.result c.collect.ensures.ran (YieldsList-from_range 0 c.args.count c.args.count refl (omega arith)) in
    subst (λ r. IfOk r (λ (w : Vec ℕ Global). w.items ≡ range_with_len 0 c.args.count)) c.in_ok-places.was all
