-- When a value fits the receiver that the class of an operand asks for, and how long values are.
use Rattle.std.proofs.Common.{◌+◌, ◌-◌, ◌/◌, ◌∷◌, ◌≡◌, ◌≤◌, Bool, List, arith, false, length, length-append, take, true, ℕ}
use Rattle.std.proofs.lemmas.List.{length-replicate, length-take}
use Rattle.std.proofs.lemmas.List.FromFn.{length-map-range_with_len}
use Rattle.std.specs.Prelude.{◌||◌, IfSome, replicate, ℤ}
use Rattle.s38_base.specs.Scalar.{bits_of, digit_at, packed_byte, scalar_image, zoned_byte}
use Rattle.s38_base.specs.Attributes.{length_of}
use Rattle.s38_base.specs.declared.attr.Attr.{Attr}
use Rattle.s38_base.specs.declared.attr.Attr.TheVariants as attrs
use Rattle.s38_base.specs.declared.op.Op.{Op}
use Rattle.s38_base.specs.declared.pointer.Pointer.{Pointer}
use Rattle.s38_code.specs.Operations.{classes, operand_rule}
use Rattle.s38_code.specs.declared.class.Class.{Class}
use Rattle.s38_code.specs.declared.class.Class.TheVariants.{PointerReceiver}
use Rattle.s38_code.specs.declared.event.Request.{Request}
use Rattle.s38_code.specs.declared.operand.Operand.{Operand}
use Rattle.s38_code.specs.declared.reply.Val.TheVariants as vals
use Rattle.s38_code.specs.declared.reply.Val.{Val}
use Rattle.s38_compute.specs.Computed.{is_branch}
use Rattle.s38_rules.specs.families.Computing.{is_call, shift_at}
use Rattle.s38_rules.specs.families.Instruction.{Instruction}
use Rattle.s38_rules.specs.ask.Operands.{room_at}
use Rattle.s38_rules.specs.ask.Receivers.{fitted}
use Rattle.s38_rules.specs.state.State.{State}
use Rattle.s38_laws_bounds.specs.Placed.{is_cell_value, leaves_spaces}
use Rattle.s38_laws_bounds.specs.Suited.{all_suit, keeps_rule}

abbrev pub begins_with_pointer : List Class → Bool
begins_with_pointer (PointerReceiver ∷ more) = true
begins_with_pointer _ = false

-- its class is a pointer's
abbrev pub gets_pointer : Op → Bool
gets_pointer op = begins_with_pointer (classes op)

-- its value comes back with the reply
abbrev pub goes_back : Op → Bool
goes_back op = is_branch op || is_call op

-- a value fits a receiver of an instruction, of which it takes so many bytes after others
abbrev pub Fits : Op → ℕ → ℕ → Val → Type 0
Fits op room shift (vals.Bytes bytes) = shift + length bytes ≤ room
Fits op room shift (vals.Ptr p) = (is_cell_value p ≡ true) × ((shift ≡ 0) × (gets_pointer op ≡ true))
Fits op room shift _ = goes_back op ≡ true

-- the operands suit the table's row of an operation
pub record SuitsRow (op : Op) (ops : List Operand) : Type 0 where
  pub classes : all_suit (classes op) ops ≡ true
  pub ruled : keeps_rule (operand_rule op) ops ≡ true

-- what a row gives to a receiver in a space fits it, and where it gives something it leaves the spaces
abbrev pub GivesWell : Op → Instruction → State → ℕ → ℕ → Request → Type 0
GivesWell op i s p d t =
    IfSome (i.gives s p d t) (λ v. Fits op (room_at t.operands 1) (shift_at s.held op t.operands) v × (leaves_spaces (i.changes s p d t) ≡ true))

pub fitted_fits : (room fill : ℕ) (bytes : List ℕ) → 0 + length (fitted room fill bytes) ≤ room
fitted_fits room fill bytes =
    let all = length-append (take room bytes) (replicate (room - length bytes) fill) in
    let front = length-take room bytes in
    let rest = length-replicate (room - length bytes) fill in
    omega (arith, all, front, rest)

pub image_length : (attr : Attr) (z : ℤ) → length (scalar_image attr z) ≤ length_of attr
unfolding scalar_image
image_length (attrs.Packed digits fraction) z = omega (arith, length-map-range_with_len (packed_byte (digits / 2) z) 0 (digits / 2 + 1))
image_length (attrs.Zoned digits fraction) z = omega (arith, length-map-range_with_len (zoned_byte digits z) 0 digits)
image_length (attrs.Binary size) z = omega (arith, length-map-range_with_len (λ k. digit_at 256 (bits_of size z) (size - 1 - k)) 0 size)
image_length (attrs.Chars len) z = omega arith
image_length attrs.Pointer z = omega arith
