use Rattle.std.proofs.Common.{◌≡◌, ◌+◌, [], ◌∷◌, ◌++◌, length, length-append, sym, ap, ◌∙◌}
use Rattle.s38_workers.specs.Asking.{WasStopped}
use Rattle.s38_workers.proofs.GatherLaws.{seated_more}
use Rattle.s38_workers.proofs.seats.all_seated.Goals as goal

pub loop-i-preserved : goal.loop-i-preserved
loop-i-preserved g c =
    let S = g.M.Stepper in
    let one = c.seated-runner.ensures in
    let so_far = c.loop-i.invariant in
    let items : c.push_reserved.new.self.items ≡ c.loop-i.runners.items ++ c.seated-runner.result ∷ [] = c.push_reserved.ensures.items in
    let count : length c.loop-i.runners.items ≡ c.loop-i.i = so_far.2 in
    let seated = seated_more (WasStopped S.is_sound S.origin S.steps c.args.turn.now.machine) c.args.turn.now c.args.made.now c.args.jobs.now c.loop-i.runners.items c.push_reserved.new.self.items c.seated-runner.result so_far.3 one.running
    (one.number ∙ ap (λ n. n + 1) (sym count)) items in
    let pushed : length c.push_reserved.new.self.items ≡ c.loop-i.i + 1 = ap length items ∙ (length-append c.loop-i.runners.items (c.seated-runner.result ∷ []) ∙ ap (λ n. n + 1) count) in
    (one.seat, one.left, pushed, seated, c.push_reserved.ensures.capacity ∙ so_far.4)
