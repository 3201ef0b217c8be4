use Rattle.std.proofs.Common.{◌≡◌, ◌-◌, ◌++◌, map}
use Rattle.std.specs.List.{range_with_len}
use Rattle.s38_demo.specs.GeneratedDeck.{post_job, post_jobs, text_of_lines}
use Rattle.s38_demo.proofs.generated.add_post_jobs.Given as goal

abbrev pub invariant-loop-number : goal.invariant-loop-number
invariant-loop-number l =
    l.text.items ++ text_of_lines (map post_job (range_with_len l.number (l.number-end - l.number))) ≡ l.initial.text.items ++ text_of_lines (post_jobs l.size)
