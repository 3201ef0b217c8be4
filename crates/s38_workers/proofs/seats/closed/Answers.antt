use Rattle.std.proofs.Common.{arith, ◌≡◌, ◌+◌, ◌-◌, ◌<◌, length, slice_index_or, true, sym, subst}
use Rattle.s38_turn.specs.Lists.{has}
use Rattle.s38_workers.specs.Asking.{WasStopped}
use Rattle.s38_workers.specs.Going.{IsByProgramSoFar}
use Rattle.s38_workers.proofs.GatherLaws.{head_of, named}
use Rattle.s38_workers.proofs.seats.closed.Goals as goal

pub close-requires-clause-all : goal.close-requires-clause-all
close-requires-clause-all g c p pos le =
    let made = c.gather_all.ensures in
    let none = made.1 in
    let count = c.requires.count in
    let lt : p - 1 < length c.args.runners.items = omega (arith, pos, le, count) in
    let d = head_of c.args.runners.items (omega (arith, lt)) in
    let p_is : p - 1 + 1 ≡ p = omega (arith, pos) in
    subst (λ q. has q c.gather_all.new.seat.lists ≡ true) p_is (made.2.each (p - 1) d (omega (arith, none)) lt).has_it

pub returns-clause-stands : goal.returns-clause-stands
returns-clause-stands g c k d job one lt job_at one_at =
    let S = g.M.Stepper in
    let made = c.gather_all.ensures in
    let none = made.1 in
    let run = made.2.each k d (omega (arith, none)) lt in
    subst (λ items. IsByProgramSoFar (WasStopped S.is_sound S.origin S.steps c.args.turn.machine) one job.budget items (slice_index_or c.args.runners.items k d).progress) (sym (c.close.ensures.lists (k + 1))) (run.stands job one job_at one_at)

pub returns-clause-named : goal.returns-clause-named
returns-clause-named g c =
    let S = g.M.Stepper in
    let made = c.gather_all.ensures in
    let none = made.1 in
    named (S.stopped c.close.result) c.args.turn.processes c.gather_all.new.seat.lists
    (λ p h. (let lt = made.2.none p h in omega (arith, lt), made.2.last p h)) c.close.ensures.stopped
