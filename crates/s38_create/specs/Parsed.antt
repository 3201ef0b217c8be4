-- What a word says at an operand's place, by the class of that place.
use Rattle.std.specs.Prelude.{ℕ, ℤ, pos, min, Bool, true, List, [], ◌∷◌, ◌++◌, codes, unsigned_abs, nat_le, is_some, Option, Some, None, if◌then◌else◌}
use Rattle.std.specs.Option.{option_map, option_and_then, option_or}
use Rattle.s38_words.specs.Attribute.{attr_spelled, attrs_of}
use Rattle.s38_words.specs.Literal.{number_literal, text_literal}
use Rattle.s38_words.specs.Name.{declared_name, exception_code_of, id_spelled}
use Rattle.s38_words.specs.Number.{natural_of, whole_spelled}
use Rattle.s38_words.specs.Row.{lock_state_of, order_spelled, pointer_kind_of, relation_spelled, rights_spelled, seek_spelled, specials_of, switch_of, wait_of}
use Rattle.s38_words.specs.Text.{after_byte, before, is_word}
use Rattle.s38_code.specs.declared.class.Class.{Class}
use Rattle.s38_code.specs.declared.class.Class.TheVariants.{NumberSource, NumberReceiver, BytesSource, BytesOrNone, BytesReceiver, PointerSource, PointerReceiver, CellsSource, CellsReceiver, Context, ContextOrList, PointerOrNone, UserOrPublic, Handler, Argument, Constant, Keyword}
use Rattle.s38_code.specs.declared.class.Constant.{Constant as ConstantClass}
use Rattle.s38_code.specs.declared.class.Constant.TheVariants as constants
use Rattle.s38_code.specs.declared.class.Keyword.{Keyword as KeywordClass}
use Rattle.s38_code.specs.declared.class.Keyword.TheVariants as keywords
use Rattle.s38_code.specs.declared.program.Arg.{Arg}
use Rattle.s38_code.specs.declared.program.Arg.TheVariants as args
use Rattle.s38_code.specs.declared.program.Row.{Row}
use Rattle.s38_odt.specs.Labels.{label_in}
use Rattle.s38_odt.specs.Suits.{class_is_argument}
use Rattle.s38_odt.specs.Table.{place_in}
use Rattle.s38_create.specs.declared.parsed.ParsedOperand.{ParsedOperand}
use Rattle.s38_create.specs.declared.parsed.ParsedOperand.TheVariants as parsed_as

-- ---- by form

-- a name says an item, whether it is declared or not
abbrev pub parsed_item : List Row → List ℕ → Option ParsedOperand
parsed_item rows word = option_map (λ name. parsed_as.Item (place_in rows name)) (declared_name word)

-- a name says a place in the code, whether the label is there or not
abbrev pub parsed_label : List (List ℕ) → List ℕ → Option ParsedOperand
parsed_label code word = option_map (λ name. parsed_as.Label (label_in code name)) (declared_name word)

abbrev pub parsed_argument : Option Arg → Option ParsedOperand
parsed_argument arg = option_map (λ arg. parsed_as.Given arg) arg

abbrev pub parsed_number : List Row → List ℕ → Option ParsedOperand
parsed_number rows word = option_or (parsed_item rows word) (parsed_argument (number_literal word))

abbrev pub parsed_bytes : List Row → List ℕ → Option ParsedOperand
parsed_bytes rows word = option_or (parsed_item rows word) (parsed_argument (text_literal word))

-- a word with a star means this
abbrev pub parsed_star : List ℕ → Arg → List ℕ → Option ParsedOperand
parsed_star star arg word = if is_word star word then Some (parsed_as.Given arg) else None

abbrev pub parsed_word : Option ℕ → Option ParsedOperand
parsed_word number = option_map (λ n. parsed_as.Given (args.Word n)) number

abbrev pub parsed_name : List ℕ → Option ParsedOperand
parsed_name word = option_map (λ name. parsed_as.Given (args.Text name)) (declared_name word)

-- a number above every range counts as 2 ^ 32
abbrev pub size_arg : ℕ → Arg
size_arg n = args.Whole (pos (min n 4294967296))

abbrev pub parsed_size : List ℕ → Option ParsedOperand
parsed_size word = option_map (λ n. parsed_as.Given (size_arg n)) (natural_of word)

-- a power that is not from -31 to 31 counts as 32
abbrev pub power_bounded : ℤ → ℤ
power_bounded z = if nat_le (unsigned_abs z) 31 then z else pos 32

abbrev pub parsed_power : List ℕ → Option ParsedOperand
parsed_power word = option_map (λ z. parsed_as.Given (args.Whole (power_bounded z))) (whole_spelled word)

abbrev pub parsed_id : List ℕ → Option ParsedOperand
parsed_id word = option_map (λ id. parsed_as.Given (args.Ident id)) (id_spelled word)

-- one attribute, or several
abbrev pub parsed_attribute : List ℕ → Option ParsedOperand
parsed_attribute word = option_map (λ attr. parsed_as.Given (args.Attrs (attr ∷ []))) (attr_spelled word)

abbrev pub parsed_attributes : List ℕ → Option ParsedOperand
parsed_attributes word = option_map (λ attrs. parsed_as.Given (args.Attrs attrs)) (attrs_of word)

-- ---- by class

-- what is written out in the program
unfoldable pub parsed_constant : List (List ℕ) → ConstantClass → List ℕ → Option ParsedOperand
parsed_constant code constants.Identification word = parsed_id word
parsed_constant code constants.Label word = parsed_label code word
parsed_constant code constants.Whole word = parsed_size word
parsed_constant code constants.Power word = parsed_power word
parsed_constant code constants.Attribute word = parsed_attribute word
parsed_constant code constants.Attributes word = parsed_attributes word
parsed_constant code constants.ExceptionCode word = parsed_word (exception_code_of word)
parsed_constant code constants.TemplateName word = parsed_name word
parsed_constant code constants.JobName word = parsed_name word

-- a word of a fixed list
unfoldable pub parsed_keyword : KeywordClass → List ℕ → Option ParsedOperand
parsed_keyword keywords.Rights word = parsed_word (rights_spelled word)
parsed_keyword keywords.Specials word = parsed_word (specials_of word)
parsed_keyword keywords.LockState word = parsed_word (lock_state_of word)
parsed_keyword keywords.Wait word = parsed_word (wait_of word)
parsed_keyword keywords.Relation word = parsed_word (relation_spelled word)
parsed_keyword keywords.Comparison word = parsed_word (relation_spelled word)
parsed_keyword keywords.Order word = parsed_word (order_spelled word)
parsed_keyword keywords.Seek word = parsed_word (seek_spelled word)
parsed_keyword keywords.PointerKind word = parsed_word (pointer_kind_of word)
parsed_keyword keywords.Switch word = parsed_word (switch_of word)

unfoldable pub parsed_operand : List Row → List (List ℕ) → Class → List ℕ → Option ParsedOperand
parsed_operand rows code NumberSource word = parsed_number rows word
parsed_operand rows code NumberReceiver word = parsed_item rows word
parsed_operand rows code BytesSource word = parsed_bytes rows word
parsed_operand rows code BytesOrNone word = option_or (parsed_star (codes "*NONE") args.Nothing word) (parsed_bytes rows word)
parsed_operand rows code BytesReceiver word = parsed_item rows word
parsed_operand rows code PointerSource word = parsed_item rows word
parsed_operand rows code PointerReceiver word = parsed_item rows word
parsed_operand rows code CellsSource word = parsed_item rows word
parsed_operand rows code CellsReceiver word = parsed_item rows word
parsed_operand rows code Context word = option_or (parsed_star (codes "*MACHINE") args.MachineContext word) (parsed_item rows word)
parsed_operand rows code ContextOrList word =
    option_or (parsed_star (codes "*LIST") args.ContextList word)
    (option_or (parsed_star (codes "*MACHINE") args.MachineContext word) (parsed_item rows word))
parsed_operand rows code PointerOrNone word = option_or (parsed_star (codes "*NONE") args.Nothing word) (parsed_item rows word)
parsed_operand rows code UserOrPublic word = option_or (parsed_star (codes "*PUBLIC") args.Nothing word) (parsed_item rows word)
parsed_operand rows code Handler word = parsed_item rows word
parsed_operand rows code Argument word = parsed_item rows word
parsed_operand rows code (Constant constant) word = parsed_constant code constant word
parsed_operand rows code (Keyword keyword) word = parsed_keyword keyword word

-- ---- by row

-- what the words so far say and what those of the rest of the text say, parted by commas: one for each class,
-- arguments at the end aside, and no text after the last
abbrev pub parsed_from : List Row → List (List ℕ) → List ParsedOperand → List Class → Option (List ℕ) → Option (List ParsedOperand)
parsed_from rows code parsed [] None = Some parsed
parsed_from rows code parsed [] (Some text) = None
parsed_from rows code parsed (class ∷ classes) None = if class_is_argument class then Some parsed else None
parsed_from rows code parsed (class ∷ classes) (Some text) =
    option_and_then (λ operand. parsed_from rows code (parsed ++ operand ∷ []) classes (after_byte 44 text)) (parsed_operand rows code class (before 44 text))

-- ---- what is said

-- a name that is said is declared
abbrev pub is_declared : ParsedOperand → Bool
is_declared (parsed_as.Item item) = is_some item
is_declared (parsed_as.Label at) = true
is_declared (parsed_as.Given arg) = true

-- a label that is said is there
abbrev pub is_placed : ParsedOperand → Bool
is_placed (parsed_as.Item item) = true
is_placed (parsed_as.Label at) = is_some at
is_placed (parsed_as.Given arg) = true

abbrev pub item_arg : Option ℕ → Arg
item_arg None = args.Item 0
item_arg (Some item) = args.Item item

abbrev pub jump_arg : Option ℕ → Arg
jump_arg None = args.Jump 0
jump_arg (Some at) = args.Jump at

-- the operand that is said; the first item or place is taken for a name that has none
abbrev pub arg_of : ParsedOperand → Arg
arg_of (parsed_as.Item item) = item_arg item
arg_of (parsed_as.Label at) = jump_arg at
arg_of (parsed_as.Given arg) = arg
