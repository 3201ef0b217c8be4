use Rattle.std.proofs.Common.{sym, ◌∙◌}
use Rattle.s38_memory.proofs.Images.{candidate-of_image, none-some, not-refused}
use Rattle.s38_memory.proofs.image.decode.Goals as goal

pub returns-in-None-clause-every : goal.returns-in-None-clause-every
returns-in-None-clause-every c = λ p h e. absurd (none-some _ p c.in-None.is (c.candidate.ensures ∙ candidate-of_image _ p h e))

pub returns-then-is_image-clause-every : goal.returns-then-is_image-clause-every
returns-then-is_image-clause-every c = λ p h e. sym c.in-Some.is ∙ (c.candidate.ensures ∙ candidate-of_image _ p h e)

pub returns-else-is_image-clause-every : goal.returns-else-is_image-clause-every
returns-else-is_image-clause-every c =
    λ p h e. absurd (not-refused _ _ p _ c.is_image.ensures c.if-is_image.false (sym c.in-Some.is ∙ (c.candidate.ensures ∙ candidate-of_image _ p h e)) h e)
