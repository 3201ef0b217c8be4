-- Which operands suit a class, by the declared attributes.
use Rattle.std.specs.Prelude.{ℕ, ◌-◌, ℤ, pos, negsuc, unsigned_abs, Bool, true, false, not, ◌&&◌, ◌||◌, List, [], ◌∷◌, length, nat_le, Option, Some, None}
use Rattle.std.specs.List.{list_all}
use Rattle.s38_base.specs.Attributes.{is_bounded, is_pointer_attr, length_of}
use Rattle.s38_base.specs.declared.attr.Attr.{Attr}
use Rattle.s38_code.specs.declared.class.Class.{Class}
use Rattle.s38_code.specs.declared.class.Class.TheVariants.{NumberSource, NumberReceiver, BytesSource, BytesOrNone, BytesReceiver, PointerSource, PointerReceiver, CellsSource, CellsReceiver, Context, ContextOrList, PointerOrNone, UserOrPublic, Handler, Argument, Constant, Keyword}
use Rattle.s38_code.specs.declared.class.Constant.{Constant as ConstantClass}
use Rattle.s38_code.specs.declared.class.Constant.TheVariants as constants
use Rattle.s38_code.specs.declared.class.Keyword.{Keyword as KeywordClass}
use Rattle.s38_code.specs.declared.class.Keyword.TheVariants as keywords
use Rattle.s38_code.specs.declared.program.Arg.{Arg}
use Rattle.s38_code.specs.declared.program.Arg.TheVariants as args
use Rattle.s38_code.specs.declared.program.Form.{Form}
use Rattle.s38_code.specs.declared.program.Row.{Row}
use Rattle.s38_odt.specs.OperandAttributes.{are_bytes, can_be_passed, has_cells, is_attr_of_pointer, is_handler, is_numeric_attr, item_attr, item_row, operand_attr}

-- ---- items by their form

abbrev pub form_suits : (Form → Bool) → Option Row → Bool
form_suits suits None = false
form_suits suits (Some row) = suits row.form

abbrev pub item_suits : (Form → Bool) → List Row → Arg → Bool
item_suits suits rows arg = form_suits suits (item_row rows arg)

-- ---- other operands

abbrev pub is_nothing : Arg → Bool
is_nothing args.Nothing = true
is_nothing _ = false

abbrev pub is_machine_word : Arg → Bool
is_machine_word args.MachineContext = true
is_machine_word _ = false

abbrev pub is_list_word : Arg → Bool
is_list_word args.ContextList = true
is_list_word _ = false

abbrev pub is_id : Arg → Bool
is_id (args.Ident id) = true
is_id _ = false

abbrev pub is_name_argument : Arg → Bool
is_name_argument (args.Text name) = true
is_name_argument _ = false

abbrev pub is_jump : Arg → Bool
is_jump (args.Jump at) = true
is_jump _ = false

-- a word whose number is at most this
abbrev pub is_word_to : ℕ → Arg → Bool
is_word_to most (args.Word word) = nat_le word most
is_word_to most _ = false

abbrev pub is_word_argument : Arg → Bool
is_word_argument (args.Word word) = true
is_word_argument _ = false

abbrev pub is_natural_to : ℕ → ℤ → Bool
is_natural_to most (pos n) = nat_le n most
is_natural_to most (negsuc n) = false

-- a whole number of 0 to 4,294,967,295
abbrev pub is_size : Arg → Bool
is_size (args.Whole z) = is_natural_to 4294967295 z
is_size _ = false

-- a whole number of -31 to 31
abbrev pub is_power : Arg → Bool
is_power (args.Whole z) = nat_le (unsigned_abs z) 31
is_power _ = false

-- a scalar within its bounds
abbrev pub is_scalar : Attr → Bool
is_scalar attr = is_bounded attr && not (is_pointer_attr attr)

abbrev pub is_one_scalar : List Attr → Bool
is_one_scalar [] = false
is_one_scalar (attr ∷ []) = is_scalar attr
is_one_scalar (attr ∷ more ∷ rest) = false

-- their bytes have this room
abbrev pub have_room : ℕ → List Attr → Bool
have_room room [] = true
have_room room (attr ∷ attrs) = nat_le (length_of attr) room && have_room (room - length_of attr) attrs

-- 1 to 256 scalars, 4,096 bytes at most
abbrev pub are_field_attrs : List Attr → Bool
are_field_attrs attrs =
    nat_le 1 (length attrs) && (nat_le (length attrs) 256 && (list_all is_scalar attrs && have_room 4096 attrs))

abbrev pub attrs_suit : (List Attr → Bool) → Arg → Bool
attrs_suit suits (args.Attrs attrs) = suits attrs
attrs_suit suits _ = false

-- ---- by class

-- what is written out in the program
unfoldable pub constant_suits : ConstantClass → Arg → Bool
constant_suits constants.Identification arg = is_id arg
constant_suits constants.Label arg = is_jump arg
constant_suits constants.Whole arg = is_size arg
constant_suits constants.Power arg = is_power arg
constant_suits constants.Attribute arg = attrs_suit is_one_scalar arg
constant_suits constants.Attributes arg = attrs_suit are_field_attrs arg
constant_suits constants.ExceptionCode arg = is_word_argument arg
constant_suits constants.TemplateName arg = is_name_argument arg
constant_suits constants.JobName arg = is_name_argument arg

-- a word of a fixed list, and of the relations the first six where two values are compared
unfoldable pub keyword_suits : KeywordClass → Arg → Bool
keyword_suits keywords.Comparison arg = is_word_to 5 arg
keyword_suits _ arg = is_word_argument arg

unfoldable pub suits : List Row → Class → Arg → Bool
suits rows NumberSource arg = is_numeric_attr (operand_attr rows arg)
suits rows NumberReceiver arg = is_numeric_attr (item_attr rows arg)
suits rows BytesSource arg = are_bytes (operand_attr rows arg)
suits rows BytesOrNone arg = is_nothing arg || are_bytes (operand_attr rows arg)
suits rows BytesReceiver arg = are_bytes (item_attr rows arg)
suits rows PointerSource arg = is_attr_of_pointer (item_attr rows arg)
suits rows PointerReceiver arg = is_attr_of_pointer (item_attr rows arg)
suits rows CellsSource arg = item_suits has_cells rows arg
suits rows CellsReceiver arg = item_suits has_cells rows arg
suits rows Context arg = is_machine_word arg || is_attr_of_pointer (item_attr rows arg)
suits rows ContextOrList arg = is_list_word arg || (is_machine_word arg || is_attr_of_pointer (item_attr rows arg))
suits rows PointerOrNone arg = is_nothing arg || is_attr_of_pointer (item_attr rows arg)
suits rows UserOrPublic arg = is_nothing arg || is_attr_of_pointer (item_attr rows arg)
suits rows Handler arg = item_suits is_handler rows arg
suits rows Argument arg = item_suits can_be_passed rows arg
suits rows (Constant constant) arg = constant_suits constant arg
suits rows (Keyword keyword) arg = keyword_suits keyword arg

abbrev pub class_is_argument : Class → Bool
class_is_argument Argument = true
class_is_argument _ = false

-- an operand for each class, each in its place; arguments at the end may be left out
abbrev pub all_suit : List Row → List Class → List Arg → Bool
all_suit rows [] [] = true
all_suit rows [] (arg ∷ args) = false
all_suit rows (class ∷ classes) [] = class_is_argument class
all_suit rows (class ∷ classes) (arg ∷ args) = suits rows class arg && all_suit rows classes args
