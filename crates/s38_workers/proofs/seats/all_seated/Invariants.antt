use Rattle.std.proofs.Common.{◌≡◌, length}
use Rattle.std.specs.Prelude.{vec_capacity}
use Rattle.s38_turn.specs.Seats.{IsSeatOf}
use Rattle.s38_workers.specs.Asking.{WasStopped}
use Rattle.s38_workers.specs.Runs.{AreLeft, AreSeated}
use Rattle.s38_workers.proofs.seats.all_seated.Given as goal

abbrev pub invariant-loop-i : goal.invariant-loop-i
invariant-loop-i g l =
    let S = g.M.Stepper in
    IsSeatOf l.fn.turn l.seat × AreLeft l.fn.turn.processes l.i l.seat.lists × (length l.runners.items ≡ l.i) × AreSeated (WasStopped S.is_sound S.origin S.steps l.fn.turn.machine) l.fn.turn l.made l.jobs l.runners.items × (vec_capacity l.runners ≡ vec_capacity l.fn.runners)
