use Rattle.std.proofs.Common.{◌++◌, ap, ◌∙◌}
use Rattle.s38_demo.proofs.GeneratedLaws.{post_parts}
use Rattle.s38_demo.specs.GeneratedDeck.{line_with_feed, post_back, post_front, post_head, post_sum, text_of_lines}
use Rattle.s38_demo.proofs.generated.add_post.Goals as goal

pub returns : goal.returns
returns c =
    c.in_ok-add_post_back.ensures
    ∙ ap (λ t. t ++ text_of_lines post_back) (c.in_ok-add_post_sum.ensures
    ∙ ap (λ t. t ++ line_with_feed (post_sum c.args.number)) (c.in_ok-add_post_front.ensures
    ∙ ap (λ t. t ++ text_of_lines post_front) c.in_ok-add_post_head.ensures))
    ∙ post_parts c.args.text.now.items c.args.number
