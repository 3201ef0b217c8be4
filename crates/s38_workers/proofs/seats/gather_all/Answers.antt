use Rattle.std.proofs.Common.{rules, arith, ◌≡◌, ◌+◌, ◌-◌, ◌<◌, ℕ, length, take, vec_len, ap, ◌∙◌}
use Rattle.s38_workers.specs.Asking.{WasStopped}
use Rattle.s38_workers.proofs.GatherLaws.{gathered_more, popped}
use Rattle.s38_workers.proofs.seats.gather_all.Goals as goal

pub loop-runner-preserved : goal.loop-runner-preserved
loop-runner-preserved g c =
    let S = g.M.Stepper in
    let left = c.loop-runner.runners.items in
    let left' = c.pop.new.self.items in
    let n : ℕ = length left' in
    let runner = c.in-Some.runner in
    let e = c.pop.ensures in
    let was : length left ≡ vec_len c.loop-runner.runners = search rules in
    let now : n ≡ vec_len c.pop.new.self = search rules in
    let cases : vec_len c.pop.new.self + 1 ≡ vec_len c.loop-runner.runners = c.in-Some.ensures.cases in
    let len : length left ≡ n + 1 = omega (arith, was, now, cases) in
    let size : vec_len c.loop-runner.runners - 1 ≡ n = omega (arith, was, len) in
    let there : 0 < vec_len c.loop-runner.runners = omega (arith, was, len) in
    gathered_more (WasStopped S.is_sound S.origin S.steps c.args.turn.now.machine) c.args.turn.now c.args.made.now c.args.jobs.now c.args.runners.items left left' runner c.loop-runner.seat c.gather.new.seat n c.requires.seated c.loop-runner.invariant len
    (λ d. popped left (vec_len c.loop-runner.runners) n c.pop.result runner d c.in-Some.is (e.value d there) size)
    (e.rest ∙ ap (λ m. take m left) size) c.gather.ensures.seat c.gather.ensures.lists
