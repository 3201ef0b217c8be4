-- What an instruction asks of its operands together, and how many digits it needs.
use Rattle.std.specs.Prelude.{ℕ, ◌*◌, ℤ, pos, unsigned_abs, Bool, true, false, ◌&&◌, ◌==◌, List, drop, slice_get, nat_le, unwrap_or, Option, Some, None, if◌then◌else◌}
use Rattle.std.specs.List.{list_all}
use Rattle.std.specs.Option.{option_and_then}
use Rattle.s38_base.specs.Ids.{same_kind}
use Rattle.s38_base.specs.Attributes.{length_of}
use Rattle.s38_base.specs.declared.attr.Attr.{Attr}
use Rattle.s38_base.specs.declared.attr.Attr.TheVariants.{Packed, Zoned, Binary, Chars, Pointer}
use Rattle.s38_base.specs.declared.id.Kind.{Kind}
use Rattle.s38_base.specs.declared.op.Op.{Op}
use Rattle.s38_code.specs.Operations.{classes, made_kind, operand_rule}
use Rattle.s38_code.specs.declared.program.Arg.{Arg}
use Rattle.s38_code.specs.declared.program.Arg.TheVariants as args
use Rattle.s38_code.specs.declared.program.Form.{Form}
use Rattle.s38_code.specs.declared.program.Form.TheVariants as forms
use Rattle.s38_code.specs.declared.program.Row.{Row}
use Rattle.s38_code.specs.declared.rule.OperandRule.{OperandRule}
use Rattle.s38_code.specs.declared.rule.OperandRule.TheVariants.{Free, EqualLengths, EqualTables, OneByte, TwiceTheSource, TwiceTheReceiver, TwoLocalBytes, ShortBinary, Parameters, QueueLengths, EntryLength}
use Rattle.s38_odt.specs.Suits.{all_suit, is_natural_to, is_nothing, item_suits}
use Rattle.s38_odt.specs.OperandAttributes.{operand_attr}
use Rattle.s38_decimal.specs.Need.{has_receiver, need_of}
use Rattle.s38_odt.specs.Table.{is_parameter}

-- ---- operands by their place, from 0 on

abbrev pub argument_attr_at : List Row → List Arg → ℕ → Option Attr
argument_attr_at rows args k = option_and_then (operand_attr rows) (slice_get args k)

-- an operand without an attribute has no length
abbrev pub attr_length : Option Attr → ℕ
attr_length None = 0
attr_length (Some attr) = length_of attr

abbrev pub argument_length_at : List Row → List Arg → ℕ → ℕ
argument_length_at rows args k = attr_length (argument_attr_at rows args k)

abbrev pub has_length : List Row → ℕ → Arg → Bool
has_length rows length arg = attr_length (operand_attr rows arg) == length

abbrev pub word_of_argument : Option Arg → ℕ
word_of_argument (Some (args.Word word)) = word
word_of_argument _ = 0

abbrev pub whole_of_arg : Option Arg → ℤ
whole_of_arg (Some (args.Whole z)) = z
whole_of_arg _ = pos 0

abbrev pub argument_word_at : List Arg → ℕ → ℕ
argument_word_at args k = word_of_argument (slice_get args k)

abbrev pub says_nothing : Option Arg → Bool
says_nothing None = false
says_nothing (Some arg) = is_nothing arg

abbrev pub argument_whole_at : List Arg → ℕ → ℤ
argument_whole_at args k = whole_of_arg (slice_get args k)

-- ---- ties

abbrev pub is_two_bytes : Attr → Bool
is_two_bytes (Packed digits fraction) = false
is_two_bytes (Zoned digits fraction) = false
is_two_bytes (Binary size) = false
is_two_bytes (Chars len) = len == 2
is_two_bytes Pointer = false

abbrev pub is_two_local_bytes : Form → Bool
is_two_local_bytes (forms.Local attr first) = is_two_bytes attr
is_two_local_bytes (forms.Parm k attr) = false
is_two_local_bytes (forms.Based base offset attr) = false
is_two_local_bytes (forms.Handler code at) = false

abbrev pub is_short_binary : Option Attr → Bool
is_short_binary (Some (Binary size)) = size == 2
is_short_binary _ = false

abbrev pub at_suits : (Form → Bool) → List Row → Option Arg → Bool
at_suits suits rows None = false
at_suits suits rows (Some arg) = item_suits suits rows arg

abbrev pub is_from_one_to : ℕ → ℤ → Bool
is_from_one_to most z = is_natural_to most z && nat_le 1 (unsigned_abs z)

-- a queue of order 2 is keyed; others have no key
abbrev pub is_key_length : ℕ → ℤ → Bool
is_key_length order z = if order == 2 then is_from_one_to 120 z else is_natural_to 0 z

unfoldable pub keeps_rule : List Row → OperandRule → List Arg → Bool
keeps_rule rows Free args = true
keeps_rule rows EqualLengths args = list_all (has_length rows (argument_length_at rows args 0)) args
keeps_rule rows EqualTables args = argument_length_at rows args 2 == argument_length_at rows args 3
keeps_rule rows OneByte args = argument_length_at rows args 2 == 1
keeps_rule rows TwiceTheSource args = argument_length_at rows args 0 == 2 * argument_length_at rows args 1
keeps_rule rows TwiceTheReceiver args = argument_length_at rows args 1 == 2 * argument_length_at rows args 0
keeps_rule rows TwoLocalBytes args = at_suits is_two_local_bytes rows (slice_get args 0)
keeps_rule rows ShortBinary args = is_short_binary (argument_attr_at rows args 0)
keeps_rule rows Parameters args = list_all (item_suits is_parameter rows) (drop 1 args)
keeps_rule rows QueueLengths args = is_key_length (argument_word_at args 4) (argument_whole_at args 5) && is_from_one_to 4096 (argument_whole_at args 6)
keeps_rule rows EntryLength args = is_from_one_to 120 (argument_whole_at args 4)

-- in a row that makes an object, an identification is of that kind
abbrev pub names_kind : Option Kind → Arg → Bool
names_kind (Some kind) (args.Ident id) = same_kind kind id.kind
names_kind _ _ = true

-- the operands are the row's
unfoldable pub operands_fit : List Row → Op → List Arg → Bool
operands_fit rows op args =
    all_suit rows (classes op) args && (list_all (names_kind (made_kind op)) args && keeps_rule rows (operand_rule op) args)

-- ---- digits

-- the number at a place; what has none counts as a pointer
abbrev pub argument_number_at : List Row → List Arg → ℕ → Attr
argument_number_at rows args k = unwrap_or (argument_attr_at rows args k) Pointer

-- the power at the third place, if there is one
abbrev pub argument_power : ℤ → ℤ
argument_power z = if nat_le (unsigned_abs z) 31 then z else pos 0

abbrev pub power_at : List Arg → ℤ
power_at args = argument_power (argument_whole_at args 2)

-- the receiver comes first where the instruction has one
abbrev pub need_with : List Row → Op → List Arg → Bool → ℕ
need_with rows op args true = need_of op (argument_number_at rows args 1) (argument_number_at rows args 2) (argument_number_at rows args 0) (power_at args)
need_with rows op args false = need_of op (argument_number_at rows args 0) (argument_number_at rows args 1) Pointer (power_at args)

-- how many digits an instruction needs; none where it doesn't compute
unfoldable pub digits_needed : List Row → Op → List Arg → ℕ
digits_needed rows op args = need_with rows op args (has_receiver op)
