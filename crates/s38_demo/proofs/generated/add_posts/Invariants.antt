use Rattle.std.proofs.Common.{◌≡◌, ◌-◌, ◌++◌}
use Rattle.std.specs.List.{flat_map, range_with_len}
use Rattle.s38_demo.specs.GeneratedDeck.{post, posts, text_of_lines}
use Rattle.s38_demo.proofs.generated.add_posts.Given as goal

abbrev pub invariant-loop-number : goal.invariant-loop-number
invariant-loop-number l =
    l.text.items ++ text_of_lines (flat_map post (range_with_len l.number (l.number-end - l.number))) ≡ l.initial.text.items ++ text_of_lines (posts l.size)
