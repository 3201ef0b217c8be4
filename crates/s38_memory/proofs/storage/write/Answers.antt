use Rattle.std.proofs.Common.{◌≡◌, ℕ, List, ◌<◌, length, arith, sym, ap, ◌∙◌}
use Rattle.s38_memory.proofs.Meaning.{IsWritten-written}
use Rattle.std.proofs.lemmas.List.{length-set, nil_from_length}
use Rattle.std.proofs.lemmas.List.Elements.{All-set}
use Rattle.std.proofs.lemmas.Bool.Decides.{nat_tests}
use Rattle.s38_memory.specs.declared.cell.Cell.{Cell}
use Rattle.s38_memory.specs.Cell.{IsCell}
use Rattle.s38_memory.specs.Tagged.{cells_written}
use Rattle.s38_memory.proofs.Writing.{written-nil, written-more}
use Rattle.s38_memory.proofs.storage.write.Goals as goal

pub loop-rest-preserved : goal.loop-rest-preserved
loop-rest-preserved c =
    let some : 0 < length c.loop-rest.rest.now = grind (arith, nat_tests) in
    let place : c.loop-rest.place < length c.loop-rest.cells = omega arith in
    record {
      offset = omega arith;
      room = omega (arith, length-set c.loop-rest.cells c.loop-rest.place c.overlaid.result);
      cells = All-set IsCell c.loop-rest.cells c.loop-rest.place c.overlaid.result c.overlaid.ensures.whole c.loop-rest.invariant.cells;
      to_come =
          written-more c.loop-rest.cells c.loop-rest.place c.loop-rest.offset c.min.result c.loop-rest.rest.now c.split_at.result.0.now c.split_at.result.1.now c.overlaid.result _
          c.loop-rest.invariant.offset place some c.min.ensures c.split_at.ensures.front c.split_at.ensures.back c.overlaid.ensures.cell ∙ c.loop-rest.invariant.to_come;
    }

-- the whole piece was written
all_written : (at : ℕ) (piece : List ℕ) (cells : List Cell) (m : ℕ) (rest : List ℕ) (now : List Cell) → length rest ≡ 0 → cells_written m rest now ≡ cells_written at piece cells
    → now ≡ cells_written at piece cells
all_written at piece cells m rest now none same =
    sym (ap (λ p. cells_written m p now) (nil_from_length rest none) ∙ written-nil m now) ∙ same

pub returns-clause-written : goal.returns-clause-written
returns-clause-written c = all_written c.args.at c.args.piece.now c.args.cells.now _ c.loop-rest.rest.now c.loop-rest.cells (grind (arith, nat_tests)) c.loop-rest.invariant.to_come

pub returns-clause-meaning : goal.returns-clause-meaning
returns-clause-meaning c =
    IsWritten-written c.args.at c.args.piece.now c.args.cells.now c.loop-rest.cells c.requires.cells c.requires.room
    (all_written c.args.at c.args.piece.now c.args.cells.now _ c.loop-rest.rest.now c.loop-rest.cells (grind (arith, nat_tests)) c.loop-rest.invariant.to_come)
