use Rattle.std.proofs.Common.{rules, ◌≡◌, ◌∙◌, sym, ap, ℕ, true, List}
use Rattle.s38_turn.specs.Lists.{HasAll, has}
use Rattle.s38_code.specs.declared.entry.Entry.{Entry}
use Rattle.s38_turn.specs.Seats.{SeatView}
use Rattle.s38_tests_threads.specs.turn.Seating.{HasStill}
use Rattle.s38_tests_threads.proofs.turn.Seating.{has_both}
use Rattle.s38_tests_threads.proofs.turn.working.run_two.Goals as goal

pub returns-clause-has : goal.returns-clause-has
returns-clause-has g c =
    let one : HasStill c.args.seat.lists c.in_ok-seat.seat.lists = search rules in
    let two : HasStill c.args.other.lists c.in_ok-other.other.lists = search rules in
    let both = has_both c.args.middle c.args.last c.args.seat.lists c.args.other.lists c.in_ok-seat.seat.lists c.in_ok-other.other.lists c.requires.first_half c.requires.second_half one two in
    λ p pos le. ap (λ (s : SeatView (List Entry)). has p s.lists) c.gather.ensures ∙ both p pos le
