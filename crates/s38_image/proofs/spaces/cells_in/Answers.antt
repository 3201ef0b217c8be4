use Rattle.std.proofs.Common.{◌-◌, ◌+◌, Bool, cond, eqb, length, take, drop, List, Option, Some, None, ap, subst, sym, ◌∙◌}
use Rattle.std.proofs.lemmas.List.Elements.{All-push}
use Rattle.std.proofs.lemmas.Result.{err_from_is_err_and}
use Rattle.std.specs.Prelude.{All}
use Rattle.s38_codec.specs.Reading.{Gives}
use Rattle.s38_codec.proofs.Loop.{with_front}
use Rattle.s38_image.proofs.SpaceReading.{all_taken, fails, goes_on, is_done, no_more}
use Rattle.s38_image.specs.Spaces.{cells_by, flags_in}
use Rattle.s38_memory.specs.Cell.{IsCell}
use Rattle.s38_memory.specs.declared.cell.Cell.{Cell}
use Rattle.s38_image.proofs.spaces.cells_in.Goals as goal

pub returns-in_default-clause-read : goal.returns-in_default-clause-read
returns-in_default-clause-read c =
    let flags = flags_in c.args.tags.now in
    let few = no_more flags c.args.count c.loop-at.at (c.in_default.ensures) in
    subst (λ (o : Option (List Cell)). Gives (λ cells. cells.items) c.all_of.result o)
    (sym (is_done c.loop-at.cells.items (take c.args.count flags) c.loop-at.at c.loop-at.rest.now c.args.from.now few c.loop-at.invariant.read)) c.all_of.ensures.read

pub returns-in_err-cell-clause-read : goal.returns-in_err-cell-clause-read
returns-in_err-cell-clause-read c =
    let p = err_from_is_err_and c.from_residual-in_err-cell.result c.from_residual-in_err-cell.ensures.1 in
    rw (p.1, p.2) (fails c.loop-at.cells.items (flags_in c.args.tags.now) c.args.count c.loop-at.at c.loop-at.rest.now c.args.from.now c.in-Some.is_pointer c.in_err-cell.field-0.0 c.loop-at-test.true c.in-Some.ensures c.in_err-cell.ensures.read c.loop-at.invariant.read)

pub loop-at-preserved : goal.loop-at-preserved
loop-at-preserved c =
    let flags = flags_in c.args.tags.now in
    let after = c.in_ok-cell.after.now in
    record {
      read = ap (λ (xs : List Cell). with_front xs ((cells_by (drop (c.loop-at.at + 1) (take c.args.count flags))).read after)) (c.in_ok-push.ensures.items)
          ∙ goes_on c.loop-at.cells.items flags c.args.count c.loop-at.at c.loop-at.rest.now c.in-Some.is_pointer c.in_ok-cell.cell after _ c.loop-at-test.true c.in-Some.ensures c.in_ok-cell.ensures.read c.loop-at.invariant.read;
      cells = subst (λ (xs : List Cell). All IsCell xs) (sym (c.in_ok-push.ensures.items)) (All-push IsCell c.loop-at.cells.items c.in_ok-cell.cell c.loop-at.invariant.cells c.in_ok-cell.ensures.cell);
    }

pub returns-clause-read : goal.returns-clause-read
returns-clause-read c =
    let flags = flags_in c.args.tags.now in
    let few = all_taken flags c.args.count c.loop-at.at c.loop-at-test.false in
    subst (λ (o : Option (List Cell)). Gives (λ cells. cells.items) c.all_of-2.result o)
    (sym (is_done c.loop-at.cells.items (take c.args.count flags) c.loop-at.at c.loop-at.rest.now c.args.from.now few c.loop-at.invariant.read)) c.all_of-2.ensures.read
