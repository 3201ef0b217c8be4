use Rattle.std.proofs.Common.{◌≡◌, [], drop, map}
use Rattle.s38_words.specs.Attribute.{attrs_from}
use Rattle.s38_words.proofs.attribute_words.attributes_of.Given as goal

abbrev pub invariant-loop-word : goal.invariant-loop-word
invariant-loop-word l = attrs_from [] (map (λ word. word.now) l.words) ≡ attrs_from l.attrs.items (map (λ word. word.now) (drop l.word-index l.words))
