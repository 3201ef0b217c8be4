use Rattle.std.proofs.Common.{◌≡◌, ◌≤◌, ◌+◌, length}
use Rattle.std.specs.List.{slice_split}
use Rattle.s38_template.specs.Reading.{is_feed, read_of, read_on}
use Rattle.s38_template.specs.Views.{state_of}
use Rattle.s38_template.proofs.read.read.Given as goal

abbrev pub invariant-loop-line : goal.invariant-loop-line
invariant-loop-line l =
    (read_on (state_of l.reader) l.size l.number (slice_split is_feed l.rest) ≡ read_of l.text) × ((l.size ≤ 4194304) × (l.number ≤ l.size + 1))

abbrev pub decreases-loop-line : goal.decreases-loop-line
decreases-loop-line l = length l.rest
