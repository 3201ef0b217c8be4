use Rattle.std.proofs.Common.{ℕ, subst, ◌∙◌}
use Rattle.s38_rules.specs.state.Held.{Held}
use Rattle.s38_run.specs.Pickers.{number_after, number_answer}
use Rattle.s38_top.specs.Begun.{IsWholeOf}
use Rattle.s38_top.specs.Decks.{turns_by}
use Rattle.s38_top.proofs.WholeRunLaws.{demonstrated_of}
use Rattle.s38_top.proofs.prepare.of_demo.Goals as goal

pub run_deck-requires-clause-has : goal.run_deck-requires-clause-has
run_deck-requires-clause-has c = c.each_job_has_its_template.ensures c.args.text.now c.args.checked.deck c.requires.spelled

pub returns-in-Ok-run_deck : goal.returns-in-Ok-run_deck
returns-in-Ok-run_deck c = λ disk.
    demonstrated_of c.args.size c.args.text.now c.args.checked.deck c.in-Ok-run_deck.whole disk c.requires.spelled
    (subst (λ (p : ℕ). IsWholeOf _ (turns_by number_answer number_after p) c.args.checked.deck c.in-Ok-run_deck.whole) (c.new-picker.ensures ∙ c.from.ensures)
    (subst (λ (h : Held). IsWholeOf h (turns_by number_answer number_after c.new-picker.result) c.args.checked.deck c.in-Ok-run_deck.whole) c.in-Ok.ensures.objects c.in-Ok-run_deck.ensures))
