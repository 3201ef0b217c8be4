-- The line of a declaration. It has one of four forms:
--     DCL name attribute, perhaps with INIT and a literal after it
--     DCL name PARM number attribute
--     DCL name BASED pointer offset attribute
--     DCL name EXCM code label
use Rattle.std.specs.Prelude.{ℕ, ◌-◌, ◌^◌, Bool, true, false, ◌&&◌, ◌||◌, List, codes, nat_le, Option, Some, None, is_some, if◌then◌else◌}
use Rattle.std.specs.Option.{option_map, option_map_or, option_and_then}
use Rattle.s38_base.specs.Limits as limits
use Rattle.s38_base.specs.declared.attr.Attr.{Attr}
use Rattle.s38_words.specs.Attribute.{attr_spelled, field_of}
use Rattle.s38_words.specs.Literal.{text_of}
use Rattle.s38_words.specs.Name.{declared_name, exception_code_of}
use Rattle.s38_words.specs.Number.{number_spelled}
use Rattle.s38_words.specs.Text.{after_byte, before, is_word, rest_after}
use Rattle.s38_words.specs.declared.declarations.DeclarationLine.{DeclarationLine}
use Rattle.s38_words.specs.declared.declarations.Declares.{Declares}
use Rattle.s38_words.specs.declared.declarations.Declares.TheVariants.{Variable, Parameter, BasedItem, Description}

-- ---- variables

abbrev pub is_literal : List ℕ → Bool
is_literal text = is_some (number_spelled text) || is_some (text_of text)

-- what comes after INIT
abbrev pub after_init : List ℕ → Option (List ℕ)
after_init text = rest_after (codes "INIT ") text

abbrev pub is_initial : List ℕ → Bool
is_initial text = option_map_or is_literal (after_init text) false

abbrev pub variable : Attr → Declares
variable attr = Variable attr

abbrev pub variable_from : Option Attr → Option (List ℕ) → Option Declares
variable_from attr None = option_map variable attr
variable_from attr (Some rest) = if is_initial rest then option_map variable attr else None

abbrev pub variable_of : List ℕ → Option Declares
variable_of text = variable_from (attr_spelled (before 32 text)) (after_byte 32 text)

-- ---- parameters and items in spaces; a number that 64 bits don't hold is taken as the largest

abbrev pub count_spelled : List ℕ → Option ℕ
count_spelled text = field_of (2 ^ 64 - 1) text

abbrev pub parameter_from : Option ℕ → Option Attr → Option Declares
parameter_from (Some k) (Some attr) = Some (Parameter k attr)
parameter_from _ _ = None

abbrev pub parameter_of : List ℕ → Option Declares
parameter_of text = parameter_from (count_spelled (before 32 text)) (option_and_then attr_spelled (after_byte 32 text))

abbrev pub based_from : Option (List ℕ) → Option ℕ → Option Attr → Option Declares
based_from (Some base) (Some offset) (Some attr) = Some (BasedItem base offset attr)
based_from _ _ _ = None

abbrev pub based_on : Option (List ℕ) → List ℕ → Option Declares
based_on base text = based_from base (count_spelled (before 32 text)) (option_and_then attr_spelled (after_byte 32 text))

abbrev pub based_of : List ℕ → Option Declares
based_of text = option_and_then (based_on (declared_name (before 32 text))) (after_byte 32 text)

-- ---- descriptions of exceptions

abbrev pub one_code : ℕ → Option ℕ
one_code code = Some code

-- the code, or * for each
abbrev pub taken_of : List ℕ → Option (Option ℕ)
taken_of word = if is_word (codes "*") word then Some None else option_map one_code (exception_code_of word)

abbrev pub description_from : Option (Option ℕ) → Option (List ℕ) → Option Declares
description_from (Some code) (Some label) = Some (Description code label)
description_from _ _ = None

abbrev pub description_of : List ℕ → Option Declares
description_of text = description_from (taken_of (before 32 text)) (option_and_then declared_name (after_byte 32 text))

-- ---- lines

unfoldable pub declares_of : List ℕ → Option Declares
declares_of text =
    if is_word (codes "PARM") (before 32 text) then option_and_then parameter_of (after_byte 32 text)
    else (if is_word (codes "BASED") (before 32 text) then option_and_then based_of (after_byte 32 text)
    else (if is_word (codes "EXCM") (before 32 text) then option_and_then description_of (after_byte 32 text)
    else variable_of text))

abbrev pub declaration_from : Option (List ℕ) → Option Declares → Option DeclarationLine
declaration_from (Some name) (Some declares) = Some (record { name = name; declares = declares })
declaration_from _ _ = None

abbrev pub declaration_after_dcl : List ℕ → Option DeclarationLine
declaration_after_dcl text = declaration_from (declared_name (before 32 text)) (option_and_then declares_of (after_byte 32 text))

abbrev pub after_dcl : List ℕ → Option (List ℕ)
after_dcl line = rest_after (codes "DCL ") line

-- what a line declares
unfoldable pub declaration_of : List ℕ → Option DeclarationLine
declaration_of line = option_and_then declaration_after_dcl (after_dcl line)

-- the literal with which a variable's line lets it begin
unfoldable pub initial_of : List ℕ → Option (List ℕ)
initial_of line = option_and_then after_init (option_and_then (after_byte 32) (option_and_then (after_byte 32) (after_dcl line)))

-- the numbers of a line are in their ranges: 1 to 16, and 0 to 16,777,216
abbrev pub is_in_range : Declares → Bool
is_in_range (Variable attr) = true
is_in_range (Parameter k attr) = nat_le 1 k && nat_le k 16
is_in_range (BasedItem base offset attr) = nat_le offset limits.furthest
is_in_range (Description code label) = true
