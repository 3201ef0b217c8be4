-- When a value fills the receiver that the class of the first operand asks for, and how long values are.
use Rattle.std.proofs.Common.{◌+◌, ◌-◌, ◌/◌, ◌∷◌, ◌≡◌, ◌⊎◌, ◌∙◌, Bool, List, ap, arith, false, inr, length, length-append, take, true, ℕ}
use Rattle.std.proofs.lemmas.List.{length-replicate, length-take}
use Rattle.std.proofs.lemmas.List.FromFn.{length-map-range_with_len}
use Rattle.std.specs.Prelude.{◌||◌, IfSome, Some, replicate, ℤ}
use Rattle.s38_base.specs.Scalar.{bits_of, digit_at, packed_byte, scalar_image, zoned_byte}
use Rattle.s38_base.specs.Attributes.{is_numeric, length_of}
use Rattle.s38_base.specs.declared.attr.Attr.{Attr}
use Rattle.s38_base.specs.declared.attr.Attr.TheVariants as attrs
use Rattle.s38_base.specs.declared.op.Op.{Op}
use Rattle.s38_base.specs.declared.pointer.Pointer.{Pointer}
use Rattle.s38_code.specs.Operations.{classes, operand_rule}
use Rattle.s38_code.specs.declared.class.Class.{Class}
use Rattle.s38_code.specs.declared.class.Class.TheVariants.{BytesReceiver, CellsReceiver, NumberReceiver, PointerReceiver}
use Rattle.s38_code.specs.declared.rule.OperandRule.{OperandRule}
use Rattle.s38_code.specs.declared.rule.OperandRule.TheVariants.{ShortBinary}
use Rattle.s38_code.specs.declared.event.Request.{Request}
use Rattle.s38_code.specs.declared.operand.Operand.TheVariants as operands
use Rattle.s38_code.specs.declared.operand.Operand.{Operand}
use Rattle.s38_code.specs.declared.reply.Val.TheVariants as vals
use Rattle.s38_code.specs.declared.reply.Val.{Val}
use Rattle.s38_compute.specs.Computed.{is_branch, is_copy}
use Rattle.s38_rules.specs.families.Computing.{is_call}
use Rattle.s38_rules.specs.families.Instruction.{Instruction}
use Rattle.s38_rules.specs.ask.Operands.{place, room_at, room_of}
use Rattle.s38_rules.specs.ask.Receivers.{fitted}
use Rattle.s38_rules.specs.state.State.{State}

abbrev pub first_gets_number : List Class → Bool
first_gets_number (NumberReceiver ∷ more) = true
first_gets_number _ = false

abbrev pub first_gets_bytes : List Class → Bool
first_gets_bytes (NumberReceiver ∷ more) = true
first_gets_bytes (BytesReceiver ∷ more) = true
first_gets_bytes _ = false

abbrev pub first_gets_pointer : List Class → Bool
first_gets_pointer (PointerReceiver ∷ more) = true
first_gets_pointer (CellsReceiver ∷ more) = true
first_gets_pointer _ = false

-- its value comes back with the reply
abbrev pub goes_back : Op → Bool
goes_back op = is_branch op || is_call op

-- a value is of the sort that the first operand gets
abbrev pub IsSorted : Op → Val → Type 0
IsSorted op (vals.Bytes bytes) = first_gets_bytes (classes op) ≡ true
IsSorted op (vals.Ptr p) = first_gets_pointer (classes op) ≡ true
IsSorted op _ = goes_back op ≡ true

-- and as long as a variable of so many bytes; a copy is put over what is there
abbrev pub IsLong : Op → ℕ → Val → Type 0
IsLong op room (vals.Bytes bytes) = (is_copy op ≡ true) ⊎ (length bytes ≡ room)
IsLong op room _ = Unit {0}

abbrev pub asks_two : OperandRule → Bool
asks_two ShortBinary = true
asks_two _ = false

-- the first operand is a variable of an attribute that suits the operation
pub record IsLocal (op : Op) (ops : List Operand) (attr : Attr) : Type 0 where
  pub at : place ops 1 ≡ Some (operands.Receiver attr)
  pub number : first_gets_number (classes op) ≡ true → is_numeric attr ≡ true
  pub short : asks_two (operand_rule op) ≡ true → length_of attr ≡ 2

abbrev pub Fills : Op → List Operand → Val → Type 0
Fills op ops v = IsSorted op v × ((attr : Attr) → IsLocal op ops attr → IsLong op (length_of attr) v)

-- what a row gives fills its receiver
abbrev pub GivesWell : Op → Instruction → State → ℕ → ℕ → Request → Type 0
GivesWell op i s p d t = IfSome (i.gives s p d t) (Fills op t.operands)

pub image_is : (attr : Attr) (z : ℤ) → is_numeric attr ≡ true → length (scalar_image attr z) ≡ length_of attr
unfolding scalar_image
image_is (attrs.Packed digits fraction) z number = length-map-range_with_len (packed_byte (digits / 2) z) 0 (digits / 2 + 1)
image_is (attrs.Zoned digits fraction) z number = length-map-range_with_len (zoned_byte digits z) 0 digits
image_is (attrs.Binary size) z number = length-map-range_with_len (λ k. digit_at 256 (bits_of size z) (size - 1 - k)) 0 size
image_is (attrs.Chars len) z number = cc
image_is attrs.Pointer z number = cc

fitted_is : (room fill : ℕ) (bytes : List ℕ) → length (fitted room fill bytes) ≡ room
fitted_is room fill bytes =
    let all = length-append (take room bytes) (replicate (room - length bytes) fill) in
    let front = length-take room bytes in
    let rest = length-replicate (room - length bytes) fill in
    omega (arith, all, front, rest)

-- bytes that are cut or filled to the receiver
pub fitted_fills : (op : Op) (ops : List Operand) (fill : ℕ) (bytes : List ℕ) → first_gets_bytes (classes op) ≡ true → Fills op ops (vals.Bytes (fitted (room_at ops 1) fill bytes))
fitted_fills op ops fill bytes gets = (gets, λ attr local. inr (fitted_is (room_at ops 1) fill bytes ∙ ap room_of local.at))
