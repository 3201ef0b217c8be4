use Rattle.std.proofs.Common.{◌≡◌, ◌%◌, length, refl, sym, ◌∙◌, ap, subst, arith}
use Rattle.s38_run.proofs.JobLaws.{ComesOn, comes_begun, comes_on, has_halted, is_over, ran_off, ran_so_far, told_empty}
use Rattle.s38_run.proofs.jobs.take_turns.Goals as goal

pub loop-alloc-init : goal.loop-alloc-init
loop-alloc-init g c =
    let S = g.M.RunMachine in (
      comes_begun g.P.Picker.answer g.P.Picker.after c.args.picker.now c.args.made.now c.args.jobs.now (S.run c.args.machine.now) c.args.states.now.items c.args.ready.now.items c.requires.begun c.requires.between,
      (c.requires.sound, (c.requires.going, refl)),
    )

pub loop-alloc-preserved : goal.loop-alloc-preserved
loop-alloc-preserved g c =
    let S = g.M.RunMachine in
    let l = c.loop-alloc in
    let count : c.len.result ≡ length l.ready.items = omega arith in
    let comes = comes_on g.P.Picker.answer g.P.Picker.after c.args.picker.now (S.run c.args.machine.now) c.args.made.now c.args.jobs.now (S.run l.machine) l.states.items l.ready.items l.picker
    (c.pick.result % c.len.result) (S.run c.go_on.new.machine) c.go_on.new.states.items c.go_on.new.ready.items l.invariant.0
    (ap (λ n. n % c.len.result) c.pick.ensures.answer ∙ ap (λ k. g.P.Picker.answer l.picker % k) count)
    c.in-Ok.ensures.went in (
      subst (λ y. ComesOn g.P.Picker.answer g.P.Picker.after c.args.picker.now (S.run c.args.machine.now) c.args.made.now c.args.jobs.now (S.run c.go_on.new.machine) c.go_on.new.states.items c.go_on.new.ready.items y) (sym c.pick.ensures.after) comes,
      (c.go_on.ensures.sound, (c.in-Ok.ensures.going, c.go_on.ensures.origin ∙ l.invariant.1.1.1)),
    )

pub returns-in-Err-clause-so_far : goal.returns-in-Err-clause-so_far
returns-in-Err-clause-so_far g c =
    let S = g.M.RunMachine in
    let l = c.loop-alloc in
    let count : c.len.result ≡ length l.ready.items = omega arith in
    ran_off g.P.Picker.answer g.P.Picker.after c.args.picker.now (S.run c.args.machine.now) c.args.made.now c.args.jobs.now (S.run l.machine) l.states.items l.ready.items l.picker
    (c.pick.result % c.len.result) (S.run c.go_on.new.machine) l.invariant.0
    (ap (λ n. n % c.len.result) c.pick.ensures.answer ∙ ap (λ k. g.P.Picker.answer l.picker % k) count)
    c.in-Err.ensures.came_off

pub returns-in-Err-clause-stopped : goal.returns-in-Err-clause-stopped
returns-in-Err-clause-stopped g c stop =
    let S = g.M.RunMachine in
    let l = c.loop-alloc in
    let count : c.len.result ≡ length l.ready.items = omega arith in
    has_halted g.P.Picker.answer g.P.Picker.after c.args.picker.now (S.run c.args.machine.now) c.args.made.now c.args.jobs.now (S.run l.machine) l.states.items l.ready.items l.picker
    (c.pick.result % c.len.result) (S.run c.go_on.new.machine) (S.stopped c.go_on.new.machine) l.invariant.0
    (ap (λ n. n % c.len.result) c.pick.ensures.answer ∙ ap (λ k. g.P.Picker.answer l.picker % k) count)
    (c.go_on.ensures.stopped (c.in-Err.is ∙ stop))

pub returns-clause-so_far : goal.returns-clause-so_far
returns-clause-so_far g c =
    let S = g.M.RunMachine in
    let l = c.loop-alloc in
    ran_so_far g.P.Picker.answer g.P.Picker.after c.args.picker.now (S.run c.args.machine.now) c.args.made.now c.args.jobs.now (S.run l.machine) l.states.items l.ready.items l.picker l.invariant.0

pub returns-clause-over : goal.returns-clause-over
returns-clause-over g c =
    let S = g.M.RunMachine in
    let l = c.loop-alloc in
    is_over g.P.Picker.answer g.P.Picker.after c.args.picker.now (S.run c.args.machine.now) c.args.made.now c.args.jobs.now (S.run l.machine) l.states.items l.ready.items l.picker l.invariant.0
    (told_empty l.ready.items _ c.is_empty.result c.is_empty.ensures (omega arith) c.loop-alloc-test.false)
