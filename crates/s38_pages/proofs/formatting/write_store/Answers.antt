use Rattle.std.proofs.Common.{◌+◌, arith, length}
use Rattle.s38_disk.proofs.Runs.{weaker}
use Rattle.s38_redo_log.proofs.CommitLemmas.{homes_below}
use Rattle.s38_pages.specs.Formats.{IsMaking}
use Rattle.s38_pages.proofs.Making.{blanked, both_runs, filled, homes_making, label_making, made, zeros_making}
use Rattle.s38_pages.proofs.formatting.write_store.Goals as goal

pub write_zeros-requires-clause-some : goal.write_zeros-requires-clause-some
write_zeros-requires-clause-some g c = omega (arith, c.requires.layout.room, c.requires.layout.size)

pub write_homes-requires : goal.write_homes-requires
write_homes-requires g c = homes_below c.args.layout.now c.args.slots.now _ c.requires.homes (omega (arith, c.requires.size, c.write_zeros.ensures.moves.size))

pub write_label-requires : goal.write_label-requires
write_label-requires g c = omega (arith, c.requires.layout.room, c.requires.layout.size, c.requires.size, c.write_zeros.ensures.moves.size, c.write_homes.ensures.moves.size)

pub returns-in_err-write_zeros-clause-moves : goal.returns-in_err-write_zeros-clause-moves
returns-in_err-write_zeros-clause-moves g c m fills =
    let lay = c.args.layout.now in let es = c.args.slots.now in let is = c.requires.layout in let good = c.requires.homes in
    weaker (lay.size + length es + 3) (IsMaking lay m) (zeros_making lay is es good m fills c.requires.fresh c.write_zeros.ensures.moves) (omega arith) (λ s u at r. r)

pub returns-in_err-write_homes-clause-moves : goal.returns-in_err-write_homes-clause-moves
returns-in_err-write_homes-clause-moves g c m fills =
    let lay = c.args.layout.now in let es = c.args.slots.now in let is = c.requires.layout in let good = c.requires.homes in
    let one = zeros_making lay is es good m fills c.requires.fresh c.write_zeros.ensures.moves in
    let blank = blanked lay is es good c.write_zeros.ensures.moves c.in_ok-write_zeros.ensures.done in
    weaker (lay.size + length es + 3) (IsMaking lay m) (homes_making lay is es good m fills c.requires.fresh one blank c.write_homes.ensures.moves) (omega arith) (λ s u at r. r)

pub returns-in_err-write_label-clause-moves : goal.returns-in_err-write_label-clause-moves
returns-in_err-write_label-clause-moves g c m fills =
    let lay = c.args.layout.now in let es = c.args.slots.now in let is = c.requires.layout in let good = c.requires.homes in
    let one = zeros_making lay is es good m fills c.requires.fresh c.write_zeros.ensures.moves in
    let blank = blanked lay is es good c.write_zeros.ensures.moves c.in_ok-write_zeros.ensures.done in
    let two = homes_making lay is es good m fills c.requires.fresh one blank c.write_homes.ensures.moves in
    let full = filled lay is es good c.write_zeros.ensures.moves blank c.write_homes.ensures.moves c.in_ok-write_homes.ensures.done in
    weaker (lay.size + length es + 3) (IsMaking lay m) (label_making lay is es good m fills two full c.write_label.ensures.moves) (omega arith) (λ s u at r. r)

pub returns-clause-moves : goal.returns-clause-moves
returns-clause-moves g c m fills =
    let lay = c.args.layout.now in let es = c.args.slots.now in let is = c.requires.layout in let good = c.requires.homes in
    let one = zeros_making lay is es good m fills c.requires.fresh c.write_zeros.ensures.moves in
    let blank = blanked lay is es good c.write_zeros.ensures.moves c.in_ok-write_zeros.ensures.done in
    let two = homes_making lay is es good m fills c.requires.fresh one blank c.write_homes.ensures.moves in
    let full = filled lay is es good c.write_zeros.ensures.moves blank c.write_homes.ensures.moves c.in_ok-write_homes.ensures.done in
    weaker (lay.size + length es + 3) (IsMaking lay m) (label_making lay is es good m fills two full c.write_label.ensures.moves) (omega arith) (λ s u at r. r)

pub returns-clause-done : goal.returns-clause-done
returns-clause-done g c =
    let lay = c.args.layout.now in let es = c.args.slots.now in let is = c.requires.layout in let good = c.requires.homes in
    let blank = blanked lay is es good c.write_zeros.ensures.moves c.in_ok-write_zeros.ensures.done in
    let full = filled lay is es good c.write_zeros.ensures.moves blank c.write_homes.ensures.moves c.in_ok-write_homes.ensures.done in
    let both = both_runs c.write_zeros.ensures.moves c.write_homes.ensures.moves in
    made lay is es good both full c.write_label.ensures.moves c.in_ok-write_label.ensures.done
