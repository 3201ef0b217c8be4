use Rattle.std.proofs.Common.{◌+◌, arith, length}
use Rattle.s38_disk.proofs.Runs.{weaker}
use Rattle.s38_redo_log.specs.Phases.{IsRedone}
use Rattle.s38_redo_log.proofs.CommitLemmas.{redo_homes, redo_down, redo_ends, homes_below}
use Rattle.s38_redo_log.proofs.gated.redo.Goals as goal

pub write_homes-requires : goal.write_homes-requires
write_homes-requires g c = homes_below c.args.layout.now c.args.slots.now _ c.requires.log.homes c.requires.size

pub returns-in_err-write_homes-clause-moves : goal.returns-in_err-write_homes-clause-moves
returns-in_err-write_homes-clause-moves g c =
    let lay = c.args.layout.now in let es = c.args.slots.now in let is = c.requires.layout in let good = c.requires.log in
    weaker (length es + 3) (IsRedone lay es) (redo_homes lay is es good c.write_homes.ensures.moves) (omega arith) (λ s u at r. r)

pub returns-in_err-write_gate-clause-moves : goal.returns-in_err-write_gate-clause-moves
returns-in_err-write_gate-clause-moves g c =
    let lay = c.args.layout.now in let es = c.args.slots.now in let is = c.requires.layout in let good = c.requires.log in
    weaker (length es + 3) (IsRedone lay es) (redo_down lay is es good (redo_homes lay is es good c.write_homes.ensures.moves) c.in_ok-write_homes.ensures.done c.write_gate.ensures.moves) (omega arith) (λ s u at r. r)

pub returns-clause-moves : goal.returns-clause-moves
returns-clause-moves g c =
    let lay = c.args.layout.now in let es = c.args.slots.now in let is = c.requires.layout in let good = c.requires.log in
    weaker (length es + 3) (IsRedone lay es) (redo_down lay is es good (redo_homes lay is es good c.write_homes.ensures.moves) c.in_ok-write_homes.ensures.done c.write_gate.ensures.moves) (omega arith) (λ s u at r. r)

pub returns-clause-done : goal.returns-clause-done
returns-clause-done g c =
    let lay = c.args.layout.now in let es = c.args.slots.now in let is = c.requires.layout in let good = c.requires.log in
    redo_ends lay is es good c.zero_block.result (redo_homes lay is es good c.write_homes.ensures.moves) c.in_ok-write_homes.ensures.done c.write_gate.ensures.moves c.zero_block.ensures.down c.in_ok-write_gate.ensures.done
