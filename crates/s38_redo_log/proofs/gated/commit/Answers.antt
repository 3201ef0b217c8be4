use Rattle.std.proofs.Common.{◌+◌, ◌*◌, ◌/◌, arith, length}
use Rattle.s38_disk.proofs.CostLaws.{costs_then, costs_within}
use Rattle.s38_disk.proofs.Runs.{weaker}
use Rattle.s38_redo_log.specs.Phases.{IsAllOrNone}
use Rattle.s38_redo_log.proofs.CommitLemmas.{log_all_or_none, log_ends, gate_all_or_none, gate_ends, homes_all_or_none, homes_ends, down_all_or_none, down_ends, homes_below, moment_later}
use Rattle.s38_redo_log.proofs.gated.commit.Goals as goal

pub write_homes-requires : goal.write_homes-requires
write_homes-requires g c =
    homes_below c.args.layout.now c.args.slots.now _ c.requires.log.homes (omega (arith, c.write_log.ensures.moves.size, c.write_gate.ensures.moves.size))

pub returns-in_err-write_log-clause-moves : goal.returns-in_err-write_log-clause-moves
returns-in_err-write_log-clause-moves g c =
    let lay = c.args.layout.now in let es = c.args.slots.now in let is = c.requires.layout in let good = c.requires.log in
    weaker (2 * length es + length es / 132 + 7) (IsAllOrNone lay es) (log_all_or_none lay is es good c.write_log.ensures.moves) (omega arith) (λ s u at r. r)

pub returns-in_err-write_gate-clause-moves : goal.returns-in_err-write_gate-clause-moves
returns-in_err-write_gate-clause-moves g c =
    let lay = c.args.layout.now in let es = c.args.slots.now in let is = c.requires.layout in let good = c.requires.log in
    let one = log_all_or_none lay is es good c.write_log.ensures.moves in
    let logged = log_ends lay is es good c.write_log.ensures.moves c.in_ok-write_log.ensures.done in
    weaker (2 * length es + length es / 132 + 7) (IsAllOrNone lay es) (gate_all_or_none lay is es good one logged c.write_gate.ensures.moves) (omega arith) (λ s u at r. r)

pub returns-in_err-write_homes-clause-moves : goal.returns-in_err-write_homes-clause-moves
returns-in_err-write_homes-clause-moves g c =
    let lay = c.args.layout.now in let es = c.args.slots.now in let is = c.requires.layout in let good = c.requires.log in
    let one = log_all_or_none lay is es good c.write_log.ensures.moves in
    let logged = log_ends lay is es good c.write_log.ensures.moves c.in_ok-write_log.ensures.done in
    let two = gate_all_or_none lay is es good one logged c.write_gate.ensures.moves in
    let raised = gate_ends lay is es good c.up_block.result one logged c.write_gate.ensures.moves c.up_block.ensures c.in_ok-write_gate.ensures.done in
    weaker (2 * length es + length es / 132 + 7) (IsAllOrNone lay es) (homes_all_or_none lay is es good two raised c.write_homes.ensures.moves) (omega arith) (λ s u at r. r)

pub returns-in_err-write_gate-2-clause-moves : goal.returns-in_err-write_gate-2-clause-moves
returns-in_err-write_gate-2-clause-moves g c =
    let lay = c.args.layout.now in let es = c.args.slots.now in let is = c.requires.layout in let good = c.requires.log in
    let one = log_all_or_none lay is es good c.write_log.ensures.moves in
    let logged = log_ends lay is es good c.write_log.ensures.moves c.in_ok-write_log.ensures.done in
    let two = gate_all_or_none lay is es good one logged c.write_gate.ensures.moves in
    let raised = gate_ends lay is es good c.up_block.result one logged c.write_gate.ensures.moves c.up_block.ensures c.in_ok-write_gate.ensures.done in
    let three = homes_all_or_none lay is es good two raised c.write_homes.ensures.moves in
    let homed = homes_ends lay is es good two raised c.write_homes.ensures.moves c.in_ok-write_homes.ensures.done in
    weaker (2 * length es + length es / 132 + 7) (IsAllOrNone lay es) (down_all_or_none lay is es good three homed c.write_gate-2.ensures.moves) (omega arith) (λ s u at r. r)

pub returns-clause-moves : goal.returns-clause-moves
returns-clause-moves g c =
    let lay = c.args.layout.now in let es = c.args.slots.now in let is = c.requires.layout in let good = c.requires.log in
    let one = log_all_or_none lay is es good c.write_log.ensures.moves in
    let logged = log_ends lay is es good c.write_log.ensures.moves c.in_ok-write_log.ensures.done in
    let two = gate_all_or_none lay is es good one logged c.write_gate.ensures.moves in
    let raised = gate_ends lay is es good c.up_block.result one logged c.write_gate.ensures.moves c.up_block.ensures c.in_ok-write_gate.ensures.done in
    let three = homes_all_or_none lay is es good two raised c.write_homes.ensures.moves in
    let homed = homes_ends lay is es good two raised c.write_homes.ensures.moves c.in_ok-write_homes.ensures.done in
    weaker (2 * length es + length es / 132 + 7) (IsAllOrNone lay es) (down_all_or_none lay is es good three homed c.write_gate-2.ensures.moves) (omega arith) (λ s u at r. r)

pub returns-in_err-write_log-clause-cost : goal.returns-in_err-write_log-clause-cost
returns-in_err-write_log-clause-cost g c =
    let n = length c.args.slots.now in
    costs_within (2 * n + n / 132 + 3) 4 c.write_log.ensures.cost (omega arith) (omega arith)

pub returns-in_err-write_gate-clause-cost : goal.returns-in_err-write_gate-clause-cost
returns-in_err-write_gate-clause-cost g c =
    let n = length c.args.slots.now in
    costs_within (2 * n + n / 132 + 3) 4 (costs_then c.write_log.ensures.cost c.write_gate.ensures.cost) (omega arith) (omega arith)

pub returns-in_err-write_homes-clause-cost : goal.returns-in_err-write_homes-clause-cost
returns-in_err-write_homes-clause-cost g c =
    let n = length c.args.slots.now in
    costs_within (2 * n + n / 132 + 3) 4 (costs_then (costs_then c.write_log.ensures.cost c.write_gate.ensures.cost) c.write_homes.ensures.cost) (omega arith) (omega arith)

pub returns-in_err-write_gate-2-clause-cost : goal.returns-in_err-write_gate-2-clause-cost
returns-in_err-write_gate-2-clause-cost g c =
    let n = length c.args.slots.now in
    costs_within (2 * n + n / 132 + 3) 4 (costs_then (costs_then (costs_then c.write_log.ensures.cost c.write_gate.ensures.cost) c.write_homes.ensures.cost) c.write_gate-2.ensures.cost) (omega arith) (omega arith)

pub returns-clause-cost : goal.returns-clause-cost
returns-clause-cost g c =
    let n = length c.args.slots.now in
    costs_within (2 * n + n / 132 + 3) 4 (costs_then (costs_then (costs_then c.write_log.ensures.cost c.write_gate.ensures.cost) c.write_homes.ensures.cost) c.write_gate-2.ensures.cost) (omega arith) (omega arith)

pub returns-clause-done : goal.returns-clause-done
returns-clause-done g c =
    let lay = c.args.layout.now in let es = c.args.slots.now in let is = c.requires.layout in let good = c.requires.log in
    let one = log_all_or_none lay is es good c.write_log.ensures.moves in
    let logged = log_ends lay is es good c.write_log.ensures.moves c.in_ok-write_log.ensures.done in
    let two = gate_all_or_none lay is es good one logged c.write_gate.ensures.moves in
    let raised = gate_ends lay is es good c.up_block.result one logged c.write_gate.ensures.moves c.up_block.ensures c.in_ok-write_gate.ensures.done in
    let three = homes_all_or_none lay is es good two raised c.write_homes.ensures.moves in
    let homed = homes_ends lay is es good two raised c.write_homes.ensures.moves c.in_ok-write_homes.ensures.done in
    down_ends lay is es good c.zero_block.result three homed c.write_gate-2.ensures.moves c.zero_block.ensures.down c.in_ok-write_gate-2.ensures.done

pub returns-clause-rises : goal.returns-clause-rises
returns-clause-rises g c =
    let one = moment_later c.write_log.ensures.moves in
    let two = moment_later c.write_gate.ensures.moves in
    let three = moment_later c.write_homes.ensures.moves in
    omega (arith, one, two, three, c.in_ok-write_gate-2.ensures.rises)
