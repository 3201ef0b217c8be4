-- Words of a log line: numbers, pointers, values, exceptions and causes.
use Rattle.std.specs.Prelude.{ℕ, ◌+◌, ◌/◌, ◌%◌, Bool, true, false, ◌==◌, List, [], ◌∷◌, ◌++◌, drop, codes, decimal, bit_and, Option, Some, None, nat_le, if◌then◌else◌}
use Rattle.std.specs.List.{flat_map}
use Rattle.s38_base.specs.RightNames as rights
use Rattle.s38_base.specs.declared.exception.Exception.{Exception}
use Rattle.s38_base.specs.declared.exception.Rule.{Rule}
use Rattle.s38_base.specs.declared.exception.Rule.TheVariants.{Plain, Missing, NoSpecial, Held, Unit, StoreFull, Creation}
use Rattle.s38_base.specs.declared.pointer.Pointer.{Pointer}
use Rattle.s38_base.specs.declared.pointer.Pointer.TheVariants.{System, Space, Item}
use Rattle.s38_base.specs.declared.words.LockState.{LockState}
use Rattle.s38_base.specs.declared.words.LockState.TheVariants.{Lsrd, Lsro, Lsup, Lear, Lenr}
use Rattle.s38_code.specs.declared.event.EndCause.{EndCause}
use Rattle.s38_code.specs.declared.event.EndCause.TheVariants.{Return, Unhandled, Budget, Start, Create}
use Rattle.s38_code.specs.declared.reply.Val.{Val}
use Rattle.s38_code.specs.declared.reply.Val.TheVariants.{Bytes, Ptr, Branch, Code}

-- ---- hexadecimal digits, in upper case

abbrev pub hex_digit : ℕ → ℕ
hex_digit d = if nat_le d 9 then d + 48 else d + 55

abbrev pub byte_as_hex : ℕ → List ℕ
byte_as_hex byte = hex_digit (byte / 16) ∷ hex_digit (byte % 16) ∷ []

abbrev pub hex_text : List ℕ → List ℕ
hex_text bytes = flat_map byte_as_hex bytes

-- four digits
abbrev pub hex_code : ℕ → List ℕ
hex_code code = byte_as_hex (code / 256) ++ byte_as_hex (code % 256)

-- ---- rights and special authorities

-- the name after a +, where its bit is set
abbrev pub named_bit : ℕ → ℕ → List ℕ → List ℕ
named_bit bits bit name = if bit_and bits bit == bit then 43 ∷ name else []

-- the names of the rights, each after a +
abbrev pub right_names : ℕ → List ℕ
right_names bits =
    named_bit bits rights.objctl (codes "OBJCTL") ++ (named_bit bits rights.objmgt (codes "OBJMGT") ++ (named_bit bits rights.autptr (codes "AUTPTR") ++ (named_bit bits rights.space (codes "SPACE")
    ++ (named_bit bits rights.retrieve (codes "RETRIEVE") ++ (named_bit bits rights.insert (codes "INSERT") ++ (named_bit bits rights.delete (codes "DELETE") ++ named_bit bits rights.update (codes "UPDATE")))))))

-- the names joined by +, and ALL or NONE at the ends
unfoldable pub rights_word : ℕ → List ℕ
rights_word bits = if bits == rights.all_rights then codes "ALL" else (if bits == rights.no_rights then codes "NONE" else drop 1 (right_names bits))

abbrev pub special_names : ℕ → List ℕ
special_names bits = named_bit bits rights.allobj (codes "ALLOBJ") ++ named_bit bits rights.profile (codes "PROFILE")

unfoldable pub special_word : ℕ → List ℕ
special_word bits = if bits == 0 then codes "NONE" else drop 1 (special_names bits)

-- ---- values, each after a blank

abbrev pub pointer_text : Option Pointer → List ℕ
pointer_text None = codes "-"
pointer_text (Some (System object held)) = codes "S" ++ (decimal object.0 ++ (codes "/" ++ byte_as_hex held.0))
pointer_text (Some (Space object offset)) = codes "A" ++ (decimal object.0 ++ (codes "+" ++ decimal offset))
pointer_text (Some (Item object offset attr)) = codes "D" ++ (decimal object.0 ++ (codes "+" ++ decimal offset))

abbrev pub answer_text : Bool → List ℕ
answer_text true = codes " YES"
answer_text false = codes " NO"

-- a program prints nothing
unfoldable pub value_text : Val → List ℕ
value_text (Bytes bytes) = codes " " ++ hex_text bytes
value_text (Ptr pointer) = codes " " ++ pointer_text pointer
value_text (Branch taken) = answer_text taken
value_text (Code code) = []

-- ---- exceptions

abbrev pub state_word : LockState → List ℕ
state_word Lsrd = codes "LSRD"
state_word Lsro = codes "LSRO"
state_word Lsup = codes "LSUP"
state_word Lear = codes "LEAR"
state_word Lenr = codes "LENR"

-- each part of a detail comes after a blank
unfoldable pub detail_text : Rule → List ℕ
detail_text Plain = []
detail_text (Missing missing) = codes " " ++ rights_word missing.0
detail_text (NoSpecial special) = codes " " ++ special_word special.0
detail_text (Held process state) = codes " " ++ (decimal process ++ (codes " " ++ state_word state))
detail_text (Unit process) = codes " " ++ decimal process
detail_text (StoreFull needed free) = codes " " ++ (decimal needed ++ (codes " " ++ decimal free))
detail_text (Creation number) = codes " " ++ decimal number

-- the code, the operand and the detail
abbrev pub exception_text : Exception → List ℕ
exception_text x = hex_code x.id ++ (codes " " ++ (decimal x.operand ++ detail_text x.rule))

-- ---- why a process ends

unfoldable pub cause_text : EndCause → List ℕ
cause_text Return = codes "RETURN"
cause_text (Unhandled id) = codes "UNHANDLED " ++ hex_code id
cause_text Budget = codes "BUDGET"
cause_text (Start id) = codes "START " ++ hex_code id
cause_text (Create id number) = (codes "CREATE " ++ hex_code id) ++ (codes " " ++ decimal number)
