-- The forms of an operand: whether some operand of some instruction is written so.
use Rattle.std.specs.Prelude.{ℕ, Bool, ◌||◌, List, is_some}
use Rattle.std.specs.List.{list_all}
use Rattle.s38_words.specs.Attribute.{attr_spelled, parts}
use Rattle.s38_words.specs.Literal.{text_of}
use Rattle.s38_words.specs.Name.{declared_name, exception_code_of, id_spelled}
use Rattle.s38_words.specs.Number.{number_spelled}
use Rattle.s38_words.specs.Row.{rights_spelled, specials_of, star_of}

abbrev pub is_attribute : List ℕ → Bool
is_attribute word = is_some (attr_spelled word)

abbrev pub are_attributes : List ℕ → Bool
are_attributes word = list_all is_attribute (parts word)

-- a name, which every other word of letters is too, or a literal
abbrev pub is_plain : List ℕ → Bool
is_plain word = is_some (declared_name word) || (is_some (number_spelled word) || is_some (text_of word))

-- names joined by +, a word with a star, or the number of an exception
abbrev pub is_special_word : List ℕ → Bool
is_special_word word = is_some (rights_spelled word) || (is_some (specials_of word) || (is_some (star_of word) || is_some (exception_code_of word)))

-- an operand is a name, a literal, an identification, attributes, or a word
unfoldable pub has_form : List ℕ → Bool
has_form word = is_plain word || (is_some (id_spelled word) || (are_attributes word || is_special_word word))
