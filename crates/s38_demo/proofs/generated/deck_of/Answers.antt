use Rattle.std.proofs.Common.{ℕ, List, ◌++◌, ap, sym, ◌∙◌, subst}
use Rattle.s38_demo.proofs.GeneratedLaws.{deck_parts}
use Rattle.s38_template.specs.Grammar.{Spells}
use Rattle.s38_demo.proofs.SpelledLaws.{generated_is_spelled}
use Rattle.s38_demo.specs.GeneratedDeck.{after_posts, before_posts, generated, post_jobs, posts, setup, text_of_lines, total}
use Rattle.s38_demo.proofs.generated.deck_of.Goals as goal

pub returns-clause-text : goal.returns-clause-text
returns-clause-text c =
    let n = c.args.size in
    c.in_ok-add-2.ensures
    ∙ ap (λ t. t ++ text_of_lines after_posts) (c.in_ok-add_post_jobs.ensures
    ∙ ap (λ t. t ++ text_of_lines (post_jobs n)) (c.in_ok-add.ensures
    ∙ ap (λ t. t ++ text_of_lines before_posts) (c.in_ok-add_total.ensures
    ∙ ap (λ t. t ++ text_of_lines total) (c.in_ok-add_posts.ensures
    ∙ ap (λ t. t ++ text_of_lines (posts n)) (c.in_ok-add_setup.ensures
    ∙ ap (λ t. t ++ text_of_lines setup) c.new-text.ensures.items)))))
    ∙ deck_parts n

pub returns-clause-spelled : goal.returns-clause-spelled
returns-clause-spelled c =
    subst (λ (text : List ℕ). Spells text (generated c.args.size)) (sym (returns-clause-text c)) (generated_is_spelled c.args.size c.requires.first c.requires.last)
