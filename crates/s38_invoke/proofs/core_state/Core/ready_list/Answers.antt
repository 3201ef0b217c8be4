use Rattle.std.proofs.Common.{◌+◌, ◌++◌, ◌∷◌, [], cond, refl, sym, ◌∙◌, ap}
use Rattle.s38_rules.specs.state.State.{ready}
use Rattle.s38_invoke.proofs.StageLaws.{filter_range}
use Rattle.s38_invoke.proofs.core_state.Core.ready_list.Goals as goal

pub loop-at-preserved : goal.loop-at-preserved
loop-at-preserved g c =
    c.in_ok-push_if.ensures
    ∙ ap (λ xs. xs ++ cond c.is_ready_in.result ((c.loop-at.at + 1) ∷ []) []) c.loop-at.invariant
    ∙ sym (filter_range (ready c.args.self.now) c.loop-at.at (c.loop-at.at + 1) c.is_ready_in.result refl c.is_ready_in.ensures)
