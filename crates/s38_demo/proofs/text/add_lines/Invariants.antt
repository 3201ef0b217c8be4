use Rattle.std.proofs.Common.{◌≡◌, ◌++◌, map, take}
use Rattle.s38_demo.specs.GeneratedDeck.{text_of_lines}
use Rattle.s38_demo.proofs.text.add_lines.Given as goal

abbrev pub invariant-loop-line : goal.invariant-loop-line
invariant-loop-line l = l.text.items ≡ l.initial.text.items ++ text_of_lines (map (λ line. line.now) (take l.line-index l.lines))
