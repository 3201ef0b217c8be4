use Rattle.std.proofs.Common.{ℕ, arith}
use Rattle.std.proofs.lemmas.List.{length-take, length-drop}
use Rattle.s38_memory.proofs.Reading.{read-step, read-within}
use Rattle.s38_memory.proofs.storage.read.Goals as goal

pub loop-done-preserved : goal.loop-done-preserved
loop-done-preserved c =
    record {
      within = read-within c.loop-done.into c.read_cell-done.new.into _ c.loop-done.done c.read_cell-done.result (omega arith) (omega (arith, length-take {A = ℕ}, length-drop {A = ℕ}));
      front = read-step c.args.cells.now c.loop-done.into c.read_cell-done.new.into _ _ c.args.at c.loop-done.done c.read_cell-done.result _ c.requires.cells (omega arith) (omega arith) (omega arith) c.read_cell-done.ensures.read c.loop-done.invariant.front;
    }
