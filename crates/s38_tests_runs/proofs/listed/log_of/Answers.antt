use Rattle.std.proofs.Common.{ℕ, List, sym, ◌∙◌, ap}
use Rattle.std.specs.Prelude.{slice_get}
use Rattle.s38_top.proofs.DeckLaws.{all_templates}
use Rattle.s38_tests_runs.proofs.listed.log_of.Goals as goal

pub checked_templates-requires : goal.checked_templates-requires
checked_templates-requires c = λ k lines h.
    all_templates c.args.deck.templates c.requires.templates k lines (ap (λ (ts : List (List (List ℕ))). slice_get ts k) (sym c.as_slice.ensures.items) ∙ h)

pub run_deck-requires-clause-has : goal.run_deck-requires-clause-has
run_deck-requires-clause-has c = c.each_job_has_its_template.ensures c.args.text.now c.args.deck c.requires
