use Rattle.std.proofs.Common.{sym, arith, length}
use Rattle.s38_journals.proofs.CutLaws.{cut_at, cut_past, place_within}
use Rattle.s38_journals.proofs.pieces.piece_in.Goals as goal

pub returns-then-at-ends : goal.returns-then-at-ends
returns-then-at-ends c = sym (cut_past c.args.ends.now c.args.bytes.now 0 c.args.at (omega arith))

pub slice_bounds-result-count : goal.slice_bounds-result-count
slice_bounds-result-count c =
    let is = place_within c.args.ends.now 0 (length c.args.bytes.now) c.args.at c.requires (omega arith) in
    omega arith

pub slice_bounds-result-start : goal.slice_bounds-result-start
slice_bounds-result-start c =
    let is = place_within c.args.ends.now 0 (length c.args.bytes.now) c.args.at c.requires (omega arith) in
    omega arith

pub slice_bounds-result-end : goal.slice_bounds-result-end
slice_bounds-result-end c =
    let is = place_within c.args.ends.now 0 (length c.args.bytes.now) c.args.at c.requires (omega arith) in
    omega arith

pub returns : goal.returns
returns c =
    rw c.start_of-start.ensures (sym (cut_at c.args.ends.now c.args.bytes.now 0 c.args.at (omega arith)))
