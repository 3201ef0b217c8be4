use Rattle.std.proofs.Common.{◌≡◌, ◌≤◌, [], drop, length, sym, ◌∙◌, ap, arith}
use Rattle.std.proofs.lemmas.List.{drop_all}
use Rattle.s38_invoke.proofs.StageLaws.{early_is, least_from}
use Rattle.s38_invoke.proofs.processes.current_stage.Goals as goal

pub returns : goal.returns
returns c = λ stage low.
    let past : length c.args.entries.now ≤ c.loop-x.x-index = omega arith in
    let none : drop c.loop-x.x-index c.args.entries.now ≡ [] = drop_all c.loop-x.x-index c.args.entries.now past in
    early_is c.args.entries.now 65535 stage c.loop-x.least (ap (least_from c.loop-x.least) (sym none) ∙ c.loop-x.invariant) low
