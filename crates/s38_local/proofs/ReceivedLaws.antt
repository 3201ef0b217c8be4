-- What is given goes to its receiver.
use Rattle.std.proofs.Common.{◌≡◌, ℕ, Bool, ℤ, List, refl}
use Rattle.std.specs.Prelude.{Some, Result, Ok, Err}
use Rattle.s38_base.specs.declared.attr.Attr.{Attr}
use Rattle.s38_base.specs.declared.exception.Exception.{Exception}
use Rattle.s38_base.specs.declared.pointer.Pointer.{Pointer}
use Rattle.s38_code.specs.declared.program.Instruction.{Instruction}
use Rattle.s38_code.specs.declared.reply.Val.{Val}
use Rattle.s38_compute.specs.Computed.{as_branch, as_bytes, as_number, as_pointer}
use Rattle.s38_local.specs.Local.{label_at, operand, received, receiver_of}
use Rattle.s38_local.specs.Received.{branch_end, bytes_received, number_received, pointer_received}

pub received_number : (homes : List ℕ) (values : List Val) (i : Instruction) (attr : Attr) (r : Result ℤ Exception) → received homes values i (Some (as_number attr r)) ≡ number_received values (receiver_of homes i.args) attr r
received_number homes values i attr (Ok z) = refl
received_number homes values i attr (Err x) = refl

pub received_bytes : (homes : List ℕ) (values : List Val) (i : Instruction) (r : Result (List ℕ) Exception) → received homes values i (Some (as_bytes r)) ≡ bytes_received values (receiver_of homes i.args) r
received_bytes homes values i (Ok bytes) = refl
received_bytes homes values i (Err x) = refl

pub received_pointer : (homes : List ℕ) (values : List Val) (i : Instruction) (r : Result Pointer Exception) → received homes values i (Some (as_pointer r)) ≡ pointer_received values (receiver_of homes i.args) r
received_pointer homes values i (Ok p) = refl
received_pointer homes values i (Err x) = refl

pub received_end : (homes : List ℕ) (values : List Val) (i : Instruction) (r : Result Bool Exception) → (received homes values i (Some (as_branch r))).end ≡ branch_end (operand i.args (label_at i.op)) r
received_end homes values i (Ok taken) = refl
received_end homes values i (Err x) = refl

pub received_values : (homes : List ℕ) (values : List Val) (i : Instruction) (r : Result Bool Exception) → (received homes values i (Some (as_branch r))).values ≡ values
received_values homes values i (Ok taken) = refl
received_values homes values i (Err x) = refl
