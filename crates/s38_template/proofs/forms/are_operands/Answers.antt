use Rattle.std.proofs.Common.{◌≡◌, true, false, [], rules, tests}
use Rattle.std.proofs.lemmas.Iterator.{cases_from_all}
use Rattle.std.proofs.lemmas.Iterator.Splits.{YieldsList-from_slice_split}
use Rattle.std.specs.List.{slice_split}
use Rattle.s38_words.specs.Form.{has_form}
use Rattle.s38_template.specs.Lines.{are_operands, is_comma}
use Rattle.s38_template.proofs.Words.{all_tests}
use Rattle.s38_template.proofs.forms.are_operands.Goals as goal

pub returns : goal.returns
unfolding are_operands
returns c =
    all_tests has_form (slice_split is_comma c.args.text.now) [] c.all.result
    (cases_from_all _ _ _ (λ x. has_form x ≡ true) (λ x. has_form x ≡ false) c.all.ensures.ran
    (YieldsList-from_slice_split _ _ c.args.text.now c.split.ensures.rest c.split.ensures.done c.split.ensures.closure (λ x r q k. search (rules, tests)))
    (λ x q k. search (rules, tests)) (λ x q k. search (rules, tests)))
