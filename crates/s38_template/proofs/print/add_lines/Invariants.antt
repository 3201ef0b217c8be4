use Rattle.std.proofs.Common.{◌≡◌, ◌++◌, map}
use Rattle.std.specs.List.{flat_map}
use Rattle.s38_template.specs.Grammar.{with_feed}
use Rattle.s38_template.proofs.print.add_lines.Given as goal

abbrev pub invariant-loop-line : goal.invariant-loop-line
invariant-loop-line l = l.text.items ≡ l.initial.text.items ++ flat_map with_feed (map (λ line. line.now) l.yielded)
