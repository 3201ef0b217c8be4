use Rattle.std.proofs.Common.{◌≡◌, true, false, [], rules, tests}
use Rattle.std.proofs.lemmas.Iterator.{cases_from_all}
use Rattle.std.proofs.lemmas.Iterator.Splits.{YieldsList-from_slice_split}
use Rattle.s38_words.specs.Attribute.{parts}
use Rattle.s38_words.specs.Form.{is_attribute}
use Rattle.s38_words.proofs.PartLaws.{list_all-tests}
use Rattle.s38_words.proofs.forms.are_attributes.Goals as goal

pub returns : goal.returns
returns c =
    list_all-tests is_attribute (parts c.args.word.now) [] c.all.result
    (cases_from_all _ _ _ (λ x. is_attribute x ≡ true) (λ x. is_attribute x ≡ false) c.all.ensures.ran
    (YieldsList-from_slice_split _ _ c.args.word.now c.split.ensures.rest c.split.ensures.done c.split.ensures.closure (λ x r q k. search (rules, tests)))
    (λ x q k. search (rules, tests)) (λ x q k. search (rules, tests)))
