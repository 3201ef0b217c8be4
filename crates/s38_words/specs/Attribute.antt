-- Attributes: PKD:d:f, ZND:d:f, BIN:2, BIN:4, CHAR:n and PTR. Their bounds are another question.
use Rattle.std.specs.Prelude.{ℕ, ◌==◌, List, [], ◌∷◌, ◌++◌, codes, Option, Some, None, if◌then◌else◌}
use Rattle.std.specs.List.{slice_split}
use Rattle.std.specs.Option.{option_map, option_and_then}
use Rattle.s38_base.specs.declared.attr.Attr.{Attr}
use Rattle.s38_base.specs.declared.attr.Attr.TheVariants.{Packed, Zoned, Binary, Chars, Pointer}
use Rattle.s38_words.specs.Number.{capped, natural_of}
use Rattle.s38_words.specs.Text.{after_byte, before, is_word}

-- the number of a field; one that is too large for the field is taken as the largest
abbrev pub field_of : ℕ → List ℕ → Option ℕ
field_of largest text = option_map (capped largest) (natural_of text)

abbrev pub chars : ℕ → Attr
chars len = Chars len

abbrev pub packed : ℕ × ℕ → Attr
packed size = Packed size.0 size.1

abbrev pub zoned : ℕ × ℕ → Attr
zoned size = Zoned size.0 size.1

abbrev pub with_fraction : ℕ → ℕ → ℕ × ℕ
with_fraction digits fraction = (digits, fraction)

-- d:f
abbrev pub decimal_size : List ℕ → Option (ℕ × ℕ)
decimal_size text =
    option_and_then (λ digits. option_map (with_fraction digits) (option_and_then (field_of 255) (after_byte 58 text))) (field_of 255 (before 58 text))

abbrev pub sized : List ℕ → List ℕ → Option Attr
sized kind size =
    if is_word (codes "CHAR") kind then option_map chars (field_of 65535 size)
    else (if is_word (codes "PKD") kind then option_map packed (decimal_size size)
    else (if is_word (codes "ZND") kind then option_map zoned (decimal_size size) else None))

unfoldable pub attr_spelled : List ℕ → Option Attr
attr_spelled word =
    if is_word (codes "PTR") word then Some Pointer
    else (if is_word (codes "BIN:2") word then Some (Binary 2)
    else (if is_word (codes "BIN:4") word then Some (Binary 4)
    else option_and_then (sized (before 58 word)) (after_byte 58 word)))

-- ---- attributes joined by +

abbrev pub parts : List ℕ → List (List ℕ)
parts word = slice_split (λ b. b == 43) word

-- the attributes so far and those of further words
abbrev pub attrs_from : List Attr → List (List ℕ) → Option (List Attr)
attrs_from attrs [] = Some attrs
attrs_from attrs (word ∷ words) = option_and_then (λ attr. attrs_from (attrs ++ attr ∷ []) words) (attr_spelled word)

abbrev pub attrs_of : List ℕ → Option (List Attr)
attrs_of word = attrs_from [] (parts word)
